use Rattle.std.proofs.Common.{◌≡◌, rules}
use Rattle.std.proofs.lemmas.Fn.{always_returns_same, dedup_same}
use Rattle.std.proofs.lemmas.List.Sorted.{ranks_by}
use Rattle.std.specs.Cmp.Lexicographic.{nat_list_cmp_total, slice_cmp}
use Rattle.std.specs.Ordering.{is_lt, nat_cmp}
use Rattle.std.specs.List.{dedup}
use Rattle.std.specs.List.Sorted.{IsSorted}
use Rattle.std.specs.Str.{bytes_eq}
use Rattle.nc_names.proofs.SortedNames.{same_test, sorts_names}
use Rattle.nc_names.proofs.sorting.sorted_names.Goals as goal

pub returns : goal.returns
returns c =
    let is : c.dedup_by.new.self.items ≡ dedup bytes_eq c.sort_by.new.self.items = dedup_same _ bytes_eq _ (λ x y b f' x' y' k. search (rules, same_test)) _ _ c.dedup_by.ensures.filtered in
    let ascend : IsSorted (slice_cmp nat_cmp) c.sort_by.new.self.items = c.in-Ok.ensures.sorted (λ x y. is_lt (slice_cmp nat_cmp x y)) (ranks_by nat_list_cmp_total (λ x. x))
    (always_returns_same _ (λ a r. is_lt r ≡ is_lt (slice_cmp nat_cmp a.0.now a.1.0.now)) _ (λ a r q k. search rules)) in
    rw is (sorts_names c.args.names.items c.sort_by.new.self.items c.sort_by.ensures.permutation ascend)
