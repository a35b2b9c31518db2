use Rattle.std.proofs.Common.{arith, ap, ◌∙◌, ◌<◌, length, get_or}
use Rattle.nc_memory.specs.Record.{done_of, end_erase, ended_at}
use Rattle.nc_memory.proofs.Numbered.{numbered_set}
use Rattle.nc_memory.proofs.serving.mark_erases.Goals as goal

pub loop-i-preserved : goal.loop-i-preserved
loop-i-preserved c =
    let l : c.loop-i.i < length c.args.erases.now = omega arith in
    numbered_set c.args.erases.now c.loop-i.erases c.loop-i.i c.index-erases-i.result _ l (ended_at end_erase c.args.refusals.now) c.args.entries c.loop-i.invariant
    (ap (λ d. end_erase d (get_or c.loop-i.erases c.loop-i.i c.index-erases-i.result)) (c.done_by.ensures ∙ ap done_of c.refusal_of.ensures))
