-- Lists of names that were sorted, each once.
use Rattle.std.proofs.Common.{◌≡◌, ℕ, List, [], ◌∷◌, get_or, arith, Bool, true}
use Rattle.std.specs.Bool.{one_answer}
use Rattle.std.specs.Cmp.Lexicographic.{nat_list_cmp_total, nat_list_eq_equiv, slice_cmp, texts_ties}
use Rattle.std.specs.List.{All, AllPairs, dedup}
use Rattle.std.specs.List.Sorted.{IsPermutation, IsSorted, IsStrictlySortedBy}
use Rattle.std.specs.Ordering.{nat_cmp}
use Rattle.std.specs.declared.cmp.Ordering.{Ordering}
use Rattle.std.specs.declared.cmp.Ordering.TheVariants.{Less}
use Rattle.std.proofs.lemmas.List.Elements.{All-contains, Contains-get_or}
use Rattle.std.proofs.lemmas.List.Kept.{AllPairs-cons, Contains-dedup, Contains-from_dedup, IsStrictlySortedBy-dedup}
use Rattle.std.proofs.lemmas.List.Sorted.{Contains-permutation, IsPermutation-sym}
use Rattle.std.proofs.lemmas.Map.Keys.{sorted_tail}
use Rattle.std.proofs.lemmas.Map.Views.{All-after_first}
use Rattle.std.proofs.lemmas.Slice.Eq.{bytes_eq-Decides}
use Rattle.std.specs.Str.{bytes_eq}
use Rattle.nc_name.specs.Keys.{name_of}
use Rattle.nc_cloud.specs.Contents.{Contents}
use Rattle.nc_state.specs.Clouds.{Clouds}
use Rattle.nc_names.specs.Listing.{AreNamesOutside, NamesBelow, SortsNames}

-- in a strictly sorted list each is below all later ones
pub in_pairs : {K : Type 0} (c : K → K → Ordering) (ks : List K) → IsStrictlySortedBy c ks → AllPairs (λ a b. c a b ≡ Less) ks
in_pairs c [] sorted = λ i j d before within. absurd (omega (arith, within))
in_pairs c (k ∷ ks) sorted = AllPairs-cons (λ a b. c a b ≡ Less) k ks (All-after_first c k ks sorted) (in_pairs c ks (sorted_tail c k ks sorted))

-- what says whether two names are the same is the test of their bytes
pub same_test : (b : Bool) (x y : List ℕ) → (b ≡ true → x ≡ y) × (x ≡ y → b ≡ true) → b ≡ bytes_eq x y
same_test b x y says = one_answer b (bytes_eq x y) says (bytes_eq-Decides x y)

-- sorted names without those that stand before themselves are the same, each once
pub sorts_names : (names moved : List (List ℕ)) → IsPermutation names moved → IsSorted (slice_cmp nat_cmp) moved → SortsNames names (dedup bytes_eq moved)
sorts_names names moved same ascend = record {
  in_order = in_pairs (slice_cmp nat_cmp) (dedup bytes_eq moved) (IsStrictlySortedBy-dedup nat_list_cmp_total texts_ties moved ascend);
  all = λ name has. Contains-dedup nat_list_eq_equiv (λ x y. (bytes_eq-Decides x y).0) moved name (Contains-permutation names moved name same has);
  only = λ name has. Contains-permutation moved names name (IsPermutation-sym names moved same) (Contains-from_dedup bytes_eq moved name has);
}

-- what holds of each name holds of each of the sorted ones
pub all_sorted : (P : List ℕ → Type 0) (names sorted : List (List ℕ)) → SortsNames names sorted → All P names → All P sorted
all_sorted P names sorted sorts all k d l = All-contains P names (get_or sorted k d) all (sorts.only (get_or sorted k d) (Contains-get_or sorted k d l))

pub outside_sorted : (n : ℕ) (H : Contents) (X : Clouds) (names sorted : List (List ℕ)) → NamesBelow n H X names → SortsNames names sorted → AreNamesOutside n H X sorted
outside_sorted n H X names sorted below sorts = record {
  all = λ c place l out there. sorts.all (name_of place) (below.all c place l out there);
  only = λ name has. below.only name (sorts.only name has);
  sorted = sorts.in_order;
}
