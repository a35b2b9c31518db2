use Rattle.std.proofs.Common.{◌≡◌, ◌<◌, ◌++◌, All, map, take, drop, length}
use Rattle.nc_cloud.specs.Seats.{collected_job}
use Rattle.nc_cloud.proofs.seats.collect_puts.Given as goal

abbrev pub invariant-loop-job : goal.invariant-loop-job
invariant-loop-job g l =
    (l.jobs ≡ map (collected_job l.seats) (take l.job-index l.initial.jobs) ++ drop l.job-index l.initial.jobs)
    × All (λ j. j.cloud < length l.seats) l.jobs
