use Rattle.std.proofs.Common.{arith}
use Rattle.nc_fetch.proofs.Growing.{free_more}
use Rattle.nc_fetch.proofs.marking.free_ones.Goals as goal

pub loop-cloud-preserved : goal.loop-cloud-preserved
loop-cloud-preserved c = free_more _ _ _ _ _ _ c.loop-cloud.invariant (omega arith) c.is_free.ensures
