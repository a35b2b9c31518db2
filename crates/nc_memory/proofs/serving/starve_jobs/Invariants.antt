use Rattle.std.proofs.Common.{◌≡◌, ◌++◌, take, drop, map}
use Rattle.nc_cloud.specs.declared.fleet.Done.TheVariants.{Memory}
use Rattle.nc_memory.specs.Record.{end_job}
use Rattle.nc_memory.proofs.serving.starve_jobs.Given as goal

abbrev pub invariant-loop-job : goal.invariant-loop-job
invariant-loop-job l = l.jobs ≡ map (end_job Memory) (take l.job-index l.initial.jobs) ++ drop l.job-index l.initial.jobs
