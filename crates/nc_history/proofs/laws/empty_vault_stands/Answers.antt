use Rattle.nc_state.proofs.EmptyLaw.{empty_stands}
use Rattle.nc_history.proofs.laws.empty_vault_stands.Goals as goal

pub returns : goal.returns
returns c = empty_stands
