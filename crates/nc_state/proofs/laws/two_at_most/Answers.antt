use Rattle.nc_state.proofs.CloudSets.{two_at_most}
use Rattle.nc_state.proofs.laws.two_at_most.Goals as goal

pub returns : goal.returns
returns c = two_at_most
