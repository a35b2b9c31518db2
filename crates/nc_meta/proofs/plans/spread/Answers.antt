use Rattle.std.proofs.Common.{ℕ, List, ◌∙◌, sym, ap, ap₂, take, drop, length}
use Rattle.std.proofs.lemmas.List.{drop-replicate}
use Rattle.nc_meta.proofs.PlanParts.{spread_written}
use Rattle.nc_meta.proofs.plans.spread.Goals as goal

pub returns : goal.returns
returns c =
    let zeros = c.split_at_mut-front.ensures.back ∙ drop-replicate c.args.lost 10 0 in
    let count = ap length (sym c.copy_from_slice-2.ensures.after) in
    spread_written _ _ _ _ _ _ c.requires.lost c.requires.short
    (c.copy_from_slice.ensures.after ∙ c.split_at.ensures.front)
    (c.split_at_mut-rest.ensures.front ∙ ap (take 1) zeros)
    (c.copy_from_slice-2.ensures.after ∙ c.split_at.ensures.back)
    (c.split_at_mut-back.ensures.back ∙ ap₂ (λ n (l : List ℕ). drop n l) count (c.split_at_mut-rest.ensures.back ∙ ap (drop 1) zeros))
