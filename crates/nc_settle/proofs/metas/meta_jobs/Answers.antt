use Rattle.nc_settle.proofs.MetaJobs.{jobs_more}
use Rattle.nc_settle.proofs.metas.meta_jobs.Goals as goal

pub loop-cloud-preserved : goal.loop-cloud-preserved
loop-cloud-preserved c = jobs_more _ _ _ _ _ _ _ c.loop-cloud.invariant c.in_ok-push_named.ensures.writes c.in_ok-push_named.ensures.whole
