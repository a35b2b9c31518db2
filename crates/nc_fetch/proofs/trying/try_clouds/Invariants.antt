use Rattle.std.proofs.Common.{◌-◌}
use Rattle.nc_fetch.proofs.TryLaws.{AreTried}
use Rattle.nc_fetch.proofs.trying.try_clouds.Given as goal

abbrev pub invariant-batches : goal.invariant-batches
invariant-batches g l = AreTried g.F.Fleet l.fn.name l.fn.live l.fn.fleet l.fleet l.fn.whys l.whys l.at l.pieces.items

abbrev pub decreases-batches : goal.decreases-batches
decreases-batches g l = l.width - l.at
