use Rattle.std.proofs.Common.{◌<◌, length, get_or, arith, ap}
use Rattle.std.proofs.lemmas.List.Elements.{All-set}
use Rattle.nc_cloud.specs.Seats.{collected_job}
use Rattle.nc_cloud.proofs.Served.{map_set}
use Rattle.nc_cloud.proofs.seats.collect_puts.Goals as goal

pub loop-job-preserved : goal.loop-job-preserved
loop-job-preserved g c =
    let l : c.loop-job.job-index < length c.args.jobs.now = omega arith in
    let m : c.loop-job.job-index < length c.loop-job.jobs = omega arith in (
      map_set c.args.jobs.now c.loop-job.jobs c.loop-job.job-index c.job-item.result _ l (collected_job c.args.seats.now) c.loop-job.invariant.0
          (ap (λ d. record (get_or c.loop-job.jobs c.loop-job.job-index c.job-item.result) { done = d }) c.done_at-job.ensures),
      All-set (λ j. j.cloud < length c.args.seats.now) c.loop-job.jobs c.loop-job.job-index _ (c.loop-job.invariant.1 c.loop-job.job-index c.job-item.result m) c.loop-job.invariant.1,
    )
