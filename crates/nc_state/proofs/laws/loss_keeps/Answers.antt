use Rattle.nc_state.proofs.LossLaw.{loss_keeps}
use Rattle.nc_state.proofs.laws.loss_keeps.Goals as goal

pub returns : goal.returns
returns c = loss_keeps
