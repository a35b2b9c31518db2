use Rattle.std.proofs.Common.{arith, ap, ◌∙◌, ◌<◌, length, get_or}
use Rattle.nc_memory.specs.Record.{done_of, end_job, ended_at}
use Rattle.nc_memory.proofs.Numbered.{numbered_set}
use Rattle.nc_memory.proofs.serving.mark_jobs.Goals as goal

pub loop-i-preserved : goal.loop-i-preserved
loop-i-preserved c =
    let l : c.loop-i.i < length c.args.jobs.now = omega arith in
    numbered_set c.args.jobs.now c.loop-i.jobs c.loop-i.i c.index-jobs-i.result _ l (ended_at end_job c.args.refusals.now) c.args.entries c.loop-i.invariant
    (ap (λ d. end_job d (get_or c.loop-i.jobs c.loop-i.i c.index-jobs-i.result)) (c.done_by.ensures ∙ ap done_of c.refusal_of.ensures))
