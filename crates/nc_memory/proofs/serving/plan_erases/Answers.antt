use Rattle.std.proofs.Common.{arith, ◌∙◌, sym, ap, ap₂, ◌<◌, ◌++◌, ◌∷◌, [], length}
use Rattle.nc_cloud.specs.Fleet.{erasure}
use Rattle.nc_memory.specs.Record.{step_by, step_of}
use Rattle.nc_memory.proofs.Numbered.{numbered_map_more}
use Rattle.nc_memory.proofs.serving.plan_erases.Goals as goal

pub loop-i-preserved : goal.loop-i-preserved
loop-i-preserved c =
    let l : c.loop-i.i < length c.args.erases.now = omega arith in
    c.in_ok-push.ensures.ok
    ∙ ap₂ (λ xs x. xs ++ x ∷ []) c.loop-i.invariant (c.plan_erase.ensures ∙ ap₂ step_by c.refusal_of.ensures (ap erasure c.index-erases-i.is))
    ∙ sym (numbered_map_more (step_of c.args.refusals.now) erasure c.args.entries c.args.erases.now c.loop-i.i c.index-erases-i.result l)
