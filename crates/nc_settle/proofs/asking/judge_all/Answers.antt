use Rattle.nc_settle.proofs.Views.{judged_more}
use Rattle.nc_settle.proofs.asking.judge_all.Goals as goal

pub loop-cloud-preserved : goal.loop-cloud-preserved
loop-cloud-preserved c = judged_more _ _ _ _ _ _ _ _ c.loop-cloud.invariant c.judge_cloud.ensures c.in_ok-push_place.ensures
