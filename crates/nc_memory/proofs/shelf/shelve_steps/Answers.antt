use Rattle.std.proofs.Common.{◌<◌, ◌++◌, ◌∷◌, [], length, sym, ap, ap₂, ◌∙◌, arith}
use Rattle.std.proofs.lemmas.List.{take_more}
use Rattle.nc_cloud.specs.Contents.{Contents}
use Rattle.nc_memory.specs.Shelf.{after_steps, shelved}
use Rattle.nc_memory.proofs.shelf.shelve_steps.Goals as goal

pub loop-i-preserved : goal.loop-i-preserved
loop-i-preserved c =
    let F : Contents = shelved c.args.shelf.now in
    let l : c.loop-i.i < length c.args.steps.now = omega arith in
    c.in_ok-shelve_next.ensures F (c.loop-i.invariant ∙ ap (λ xs. after_steps xs F) (sym c.split_at.ensures.front))
    ∙ ap (λ xs. after_steps xs F) (ap₂ (λ xs x. xs ++ x ∷ []) c.split_at.ensures.front c.index-steps-i.is ∙ sym (take_more c.args.steps.now c.loop-i.i c.index-steps-i.result l))
