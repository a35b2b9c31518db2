use Rattle.nc_history.proofs.GetLaws.{removed_is_gone}
use Rattle.nc_history.proofs.laws.remove_then_get.Goals as goal

pub returns : goal.returns
returns c = removed_is_gone
