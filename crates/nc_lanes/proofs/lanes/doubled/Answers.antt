use Rattle.nc_lanes.proofs.Bits.{HasLanes-doubled}
use Rattle.nc_lanes.proofs.lanes.doubled.Goals as goal

pub returns : goal.returns
returns c = HasLanes-doubled c.args.v c.fits-v.0 c.fits-v.1
