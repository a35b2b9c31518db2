use Rattle.std.proofs.Common.{◌≡◌, rules}
use Rattle.std.specs.Cmp.Lexicographic.{slice_cmp, nat_list_cmp_total}
use Rattle.std.specs.Ordering.{nat_cmp, is_lt}
use Rattle.std.proofs.lemmas.Fn.{always_returns_same}
use Rattle.std.proofs.lemmas.List.Sorted.{ranks_by}
use Rattle.nc_name.specs.Keys.{key_text}
use Rattle.nc_cloud.proofs.sorting.sort.Goals as goal

pub returns-in-Ok-clause-ascend : goal.returns-in-Ok-clause-ascend
returns-in-Ok-clause-ascend c =
    c.in-Ok.ensures.sorted (λ x y. is_lt (slice_cmp nat_cmp (key_text x) (key_text y))) (ranks_by nat_list_cmp_total key_text)
    (always_returns_same _ (λ a r. is_lt r ≡ is_lt (slice_cmp nat_cmp (key_text a.0.now) (key_text a.1.0.now))) _ (λ a r q k. search rules))
