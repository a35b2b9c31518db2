use Rattle.std.proofs.Common.{List, subst, sym}
use Rattle.std.specs.List.{Contains}
use Rattle.std.proofs.lemmas.List.Sorted.{Contains-permutation, IsPermutation-sym}
use Rattle.std.proofs.lemmas.Result.{IfOk-weaker}
use Rattle.nc_name.specs.declared.key.Key.{Key}
use Rattle.nc_cloud.proofs.sorting.sorted_keys.Goals as goal

pub returns-clause-all : goal.returns-clause-all
returns-clause-all c =
    let more : (list : List Key) → ((q : Key) → Contains c.deref.result.now q → Contains list q) → (q : Key) → Contains c.args.keys.items q → Contains list q =
    λ list all q has. all q (subst (λ (ks : List Key). Contains ks q) (sym c.deref.ensures.value) (Contains-permutation _ _ q c.sort.ensures.same has)) in
    IfOk-weaker _ _ _ more c.each_once.ensures.all

pub returns-clause-only : goal.returns-clause-only
returns-clause-only c =
    let more : (list : List Key) → ((q : Key) → Contains list q → Contains c.deref.result.now q) → (q : Key) → Contains list q → Contains c.args.keys.items q =
    λ list only q has. Contains-permutation _ _ q (IsPermutation-sym _ _ c.sort.ensures.same) (subst (λ (ks : List Key). Contains ks q) c.deref.ensures.value (only q has)) in
    IfOk-weaker _ _ _ more c.each_once.ensures.only
