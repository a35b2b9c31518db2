use Rattle.std.proofs.Common.{◌≡◌, ◌++◌, take, drop}
use Rattle.nc_memory.specs.Record.{end_job, ended_by}
use Rattle.nc_memory.proofs.serving.mark_jobs.Given as goal

abbrev pub invariant-loop-i : goal.invariant-loop-i
invariant-loop-i l = l.jobs ≡ ended_by end_job l.refusals l.entries (take l.i l.initial.jobs) ++ drop l.i l.initial.jobs
