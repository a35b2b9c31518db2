use Rattle.nc_frame.proofs.FrameLaws.{prefixes_of_torn_are_torn}
use Rattle.nc_frame.proofs.laws.prefixes_of_torn_are_torn.Goals as goal

pub returns : goal.returns
returns c = prefixes_of_torn_are_torn
