use Rattle.nc_state.proofs.CommandLaws.{at_rest_is_after, not_begun, rests_after}
use Rattle.nc_state.proofs.Weighs.{open_settled}
use Rattle.nc_state.proofs.laws.rests_after.Goals as goal

pub returns-clause-after : goal.returns-clause-after
returns-clause-after c = rests_after

pub returns-clause-at_rest : goal.returns-clause-at_rest
returns-clause-at_rest c = at_rest_is_after

pub returns-clause-not_begun : goal.returns-clause-not_begun
returns-clause-not_begun c = not_begun

pub returns-clause-step : goal.returns-clause-step
returns-clause-step c = open_settled
