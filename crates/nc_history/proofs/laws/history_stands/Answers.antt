use Rattle.nc_history.proofs.LossLaws.{history_stands}
use Rattle.nc_history.proofs.laws.history_stands.Goals as goal

pub returns : goal.returns
returns c = history_stands
