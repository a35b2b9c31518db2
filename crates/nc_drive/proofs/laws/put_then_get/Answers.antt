use Rattle.nc_drive.proofs.GetLaws.{put_is_printed}
use Rattle.nc_drive.proofs.laws.put_then_get.Goals as goal

pub returns : goal.returns
returns c = put_is_printed
