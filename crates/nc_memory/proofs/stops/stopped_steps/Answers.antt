use Rattle.std.proofs.Common.{◌≡◌, ◌<◌, ◌+◌, ◌-◌, take, ◌∙◌, ◌++◌, ◌∷◌, [], length, get_or, arith, sym, ap, ap₂, Some}
use Rattle.nc_memory.specs.declared.record.Step.{Step}
use Rattle.nc_memory.specs.declared.record.Torn.TheVariants.{Old}
use Rattle.nc_memory.specs.Record.{numbered}
use Rattle.nc_memory.specs.Stops.{stopped_step}
use Rattle.nc_memory.proofs.Numbered.{numbered_more}
use Rattle.nc_memory.proofs.stops.stopped_steps.Goals as goal

pub loop-i-preserved : goal.loop-i-preserved
loop-i-preserved c =
    let same : c.loop-i.i ≡ 0 + c.loop-i.i + 1 - 1 = omega arith in
    let l : c.loop-i.i < length c.args.steps.now = omega arith in
    c.in_ok-push.ensures.ok
    ∙ ap₂ (λ xs x. xs ++ x ∷ []) c.loop-i.invariant (c.in_ok-copied_step.ensures ∙ ap₂ (λ (s : Step) fate. record s { fate = Some fate }) c.index-steps-i.is c.fate_of.ensures)
    ∙ ap (λ k. numbered (stopped_step c.args.fates.now) 0 (take c.loop-i.i c.args.steps.now) ++ record (get_or c.args.steps.now c.loop-i.i c.index-steps-i.result) { fate = Some (get_or c.args.fates.now k Old) } ∷ []) same
    ∙ sym (numbered_more (stopped_step c.args.fates.now) 0 c.args.steps.now c.loop-i.i c.index-steps-i.result l)
