use Rattle.std.proofs.Common.{arith}
use Rattle.nc_fetch.proofs.Growing.{good_more}
use Rattle.nc_fetch.proofs.marking.good_ones.Goals as goal

pub loop-cloud-preserved : goal.loop-cloud-preserved
loop-cloud-preserved c = good_more _ _ _ _ c.loop-cloud.invariant (omega arith) c.is_good.ensures
