use Rattle.nc_lanes.proofs.Bits.{HasLanes-where_odd}
use Rattle.nc_lanes.proofs.lanes.where_odd.Goals as goal

pub returns : goal.returns
returns c = HasLanes-where_odd c.args.b c.args.v c.fits-b.0 c.fits-v.0
