use Rattle.std.proofs.Common.{arith}
use Rattle.nc_settle.proofs.SettleWrites.{lacking_more}
use Rattle.nc_settle.proofs.settling.lacking.Goals as goal

pub loop-cloud-preserved : goal.loop-cloud-preserved
loop-cloud-preserved c = lacking_more _ _ _ _ _ c.loop-cloud.invariant (omega arith) c.lacks.ensures
