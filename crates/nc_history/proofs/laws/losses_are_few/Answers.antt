use Rattle.nc_history.proofs.LossLaws.{damage_is, losses_are_few}
use Rattle.nc_history.proofs.laws.losses_are_few.Goals as goal

pub returns-clause-damaged : goal.returns-clause-damaged
returns-clause-damaged c = damage_is

pub returns-clause-few : goal.returns-clause-few
returns-clause-few c = losses_are_few
