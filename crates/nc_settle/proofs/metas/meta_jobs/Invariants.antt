use Rattle.nc_settle.specs.MetaWrites.{AreMetaJobs, named}
use Rattle.nc_settle.proofs.metas.meta_jobs.Given as goal

abbrev pub invariant-loop-cloud : goal.invariant-loop-cloud
invariant-loop-cloud l = AreMetaJobs l.width l.name l.meta (named l.on) l.cloud l.jobs.items
