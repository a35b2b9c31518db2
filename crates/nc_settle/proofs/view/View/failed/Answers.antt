use Rattle.std.proofs.Common.{arith}
use Rattle.nc_settle.proofs.Failures.{failing_more, same_test}
use Rattle.nc_settle.proofs.view.View.failed.Goals as goal

pub loop-cloud-preserved : goal.loop-cloud-preserved
loop-cloud-preserved c = failing_more _ _ _ _ c.loop-cloud.invariant (omega arith) (same_test _ _ _ c.has_failed.ensures)
