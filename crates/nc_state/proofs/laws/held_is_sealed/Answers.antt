use Rattle.nc_state.proofs.Held.{held_is_sealed, sealed_is_object}
use Rattle.nc_state.proofs.laws.held_is_sealed.Goals as goal

pub returns-clause-held : goal.returns-clause-held
returns-clause-held c = held_is_sealed

pub returns-clause-object : goal.returns-clause-object
returns-clause-object c = sealed_is_object
