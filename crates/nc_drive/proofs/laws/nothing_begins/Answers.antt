use Rattle.nc_drive.proofs.GetLaws.{nothing_begins}
use Rattle.nc_drive.proofs.laws.nothing_begins.Goals as goal

pub returns : goal.returns
returns c = nothing_begins
