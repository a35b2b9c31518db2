use Rattle.std.proofs.Common.{arith, refl, ◌<◌, length}
use Rattle.nc_cloud.specs.declared.fleet.Done.TheVariants.{Memory}
use Rattle.nc_memory.specs.Record.{end_job}
use Rattle.nc_cloud.proofs.Served.{map_set}
use Rattle.nc_memory.proofs.serving.starve_jobs.Goals as goal

pub loop-job-preserved : goal.loop-job-preserved
loop-job-preserved c =
    let l : c.loop-job.job-index < length c.args.jobs.now = omega arith in
    map_set c.args.jobs.now c.loop-job.jobs c.loop-job.job-index c.job-item.result _ l (end_job Memory) c.loop-job.invariant refl
