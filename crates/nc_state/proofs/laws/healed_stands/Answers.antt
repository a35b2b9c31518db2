use Rattle.nc_state.proofs.VaultLaws.{healed_stands}
use Rattle.nc_state.proofs.laws.healed_stands.Goals as goal

pub returns : goal.returns
returns c = healed_stands
