use Rattle.nc_state.proofs.VaultLaws.{unlisted_rests}
use Rattle.nc_state.proofs.laws.unlisted_rests.Goals as goal

pub returns : goal.returns
returns c = unlisted_rests
