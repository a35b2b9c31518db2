use Rattle.nc_history.proofs.GetLaws.{no_file_is_right}
use Rattle.nc_history.proofs.laws.no_file_is_right.Goals as goal

pub returns : goal.returns
returns c = no_file_is_right
