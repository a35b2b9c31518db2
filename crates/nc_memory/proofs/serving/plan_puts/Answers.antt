use Rattle.std.proofs.Common.{arith, ◌∙◌, sym, ap, ap₂, ◌<◌, ◌++◌, ◌∷◌, [], length}
use Rattle.nc_cloud.specs.Fleet.{write}
use Rattle.nc_memory.specs.Record.{step_by, step_of}
use Rattle.nc_memory.proofs.Numbered.{numbered_map_more}
use Rattle.nc_memory.proofs.serving.plan_puts.Goals as goal

pub loop-i-preserved : goal.loop-i-preserved
loop-i-preserved c =
    let l : c.loop-i.i < length c.args.jobs.now = omega arith in
    c.in_ok-push.ensures.ok
    ∙ ap₂ (λ xs x. xs ++ x ∷ []) c.loop-i.invariant (c.in_ok-plan_put.ensures ∙ ap₂ step_by c.refusal_of.ensures (ap write c.index-jobs-i.is))
    ∙ sym (numbered_map_more (step_of c.args.refusals.now) write c.args.entries c.args.jobs.now c.loop-i.i c.index-jobs-i.result l)
