use Rattle.std.proofs.Common.{◌/◌, ◌^◌}
use Rattle.nc_lanes.proofs.LaneLemmas.{HasLanes-splat}
use Rattle.nc_lanes.proofs.lanes.halved.Goals as goal

pub returns : goal.returns
returns c = HasLanes-splat (λ a b. a / 2 ^ b) c.args.v 1 c.fits-v.0
