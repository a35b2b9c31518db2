use Rattle.nc_state.proofs.CommandLaws.{stays_at_rest}
use Rattle.nc_state.proofs.laws.stays_at_rest.Goals as goal

pub returns : goal.returns
returns c = stays_at_rest
