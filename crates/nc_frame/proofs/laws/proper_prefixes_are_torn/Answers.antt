use Rattle.nc_frame.proofs.FrameLaws.{proper_prefixes_are_torn}
use Rattle.nc_frame.proofs.laws.proper_prefixes_are_torn.Goals as goal

pub returns : goal.returns
returns c = proper_prefixes_are_torn
