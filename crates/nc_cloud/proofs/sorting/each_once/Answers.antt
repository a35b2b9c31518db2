use Rattle.std.proofs.Common.{◌≡◌, ◌<◌, ◌+◌, ◌∙◌, length, List, subst, sym, arith}
use Rattle.std.proofs.lemmas.List.{get_or_default}
use Rattle.nc_name.specs.declared.key.Key.{Key}
use Rattle.nc_cloud.proofs.SortLaws.{EachOnce, once_more, once_still, all_once, only_once}
use Rattle.nc_cloud.proofs.sorting.each_once.Goals as goal
use Rattle.nc_cloud.proofs.sorting.each_once.Goals.{then-is_first+in_ok-push, else-is_first}

pub loop-i-preserved : goal.loop-i-preserved
loop-i-preserved c =
    let l : c.loop-i.i < length c.args.keys.now = c.loop-i-test.true in
    elim c.if-is_first.branch [
      | then-is_first+in_ok-push w ↦
          subst (λ (list : List Key). EachOnce c.args.keys.now list (c.loop-i.i + 1)) (sym (w.list-is ∙ w.in_ok-push.ensures.ok))
          (once_more c.args.keys.now c.loop-i.list c.loop-i.i c.requires l c.loop-i.invariant w.index-keys-i.result
          (λ d. sym (w.index-keys-i.is ∙ get_or_default c.args.keys.now c.loop-i.i _ d l)) (c.is_first.ensures.yes w.if-is_first.true))
      | else-is_first w ↦
          subst (λ (list : List Key). EachOnce c.args.keys.now list (c.loop-i.i + 1)) (sym w.list-is)
          (once_still c.args.keys.now c.loop-i.list c.loop-i.i c.requires l c.loop-i.invariant (c.is_first.ensures.no w.if-is_first.false))
    ]

pub returns-clause-all : goal.returns-clause-all
returns-clause-all c =
    let e : c.loop-i.i ≡ length c.args.keys.now = omega arith in
    all_once c.args.keys.now c.loop-i.list (subst (EachOnce c.args.keys.now c.loop-i.list) e c.loop-i.invariant)

pub returns-clause-only : goal.returns-clause-only
returns-clause-only c =
    let e : c.loop-i.i ≡ length c.args.keys.now = omega arith in
    only_once c.args.keys.now c.loop-i.list (subst (EachOnce c.args.keys.now c.loop-i.list) e c.loop-i.invariant)
