use Rattle.nc_history.proofs.GetLaws.{enough_are_good}
use Rattle.nc_history.proofs.laws.enough_are_good.Goals as goal

pub returns : goal.returns
returns c = enough_are_good
