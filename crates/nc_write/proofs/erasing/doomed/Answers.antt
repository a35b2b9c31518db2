use Rattle.nc_write.proofs.TidyLaws.{erasures_more}
use Rattle.nc_write.proofs.erasing.doomed.Goals as goal

pub loop-cloud-preserved : goal.loop-cloud-preserved
loop-cloud-preserved c = erasures_more c.loop-cloud.invariant c.in_ok-push_doomed.ensures
