use Rattle.std.proofs.Common.{◌≡◌, ℕ, ◌≤◌, List, replicate, slice_index, slice_set, length, ◌<◌, arith, inl, inr, ◌∙◌, ap}
use Rattle.std.proofs.lemmas.Bool.{cases_eq}
use Rattle.nc_matrix.specs.Cells.{entry}
use Rattle.nc_matrix.proofs.TableLemmas.{entry-set_same, entry-set_other, zero_table}
use Rattle.nc_matrix.proofs.tests.square.Goals as goal

with_first : List ℕ → List (List ℕ)
with_first first = slice_set (replicate 16 (replicate 16 0)) 0 first

first_long : (first : List ℕ) → 1 < length (with_first first)
unfolding with_first
first_long first = omega arith

first_same : (first : List ℕ) (k : ℕ) → entry (with_first first) 0 k ≡ slice_index first k
unfolding with_first
first_same first k = entry-set_same (replicate 16 (replicate 16 0)) 0 first k (omega arith)

first_other : (first : List ℕ) (i k : ℕ) → (i ≡ 0 → ⊥) → entry (with_first first) i k ≡ 0
unfolding with_first
first_other first i k ne = entry-set_other (replicate 16 (replicate 16 0)) 0 i first k ne ∙ zero_table i k

below : (first second : List ℕ) (i k : ℕ) → 2 ≤ i → entry (slice_set (with_first first) 1 second) i k ≡ 0
below first second i k le =
    entry-set_other (with_first first) 1 i second k (λ e. absurd (omega arith))
    ∙ first_other first i k (λ e. absurd (omega arith))

right : (first second : List ℕ) → ((k : ℕ) → 2 ≤ k → slice_index first k ≡ 0) → ((k : ℕ) → 2 ≤ k → slice_index second k ≡ 0) → (i k : ℕ) → 2 ≤ k → entry (slice_set (with_first first) 1 second) i k ≡ 0
right first second hf hs i k le = elim (cases_eq i 1) [
  | inl e ↦ ap (λ i. entry (slice_set (with_first first) 1 second) i k) e ∙ entry-set_same (with_first first) 1 second k (first_long first) ∙ hs k le
  | inr ne ↦
      entry-set_other (with_first first) 1 i second k ne
      ∙ elim (cases_eq i 0) [
        | inl e ↦ ap (λ i. entry (with_first first) i k) e ∙ first_same first k ∙ hf k le
        | inr other ↦ first_other first i k other
      ]
]

pub invariant_of-result : goal.invariant_of-result
unfolding with_first
invariant_of-result c = record {
  at_least_one = omega arith;
  at_most_sixteen = omega arith;
  zero_below = λ i k le. below c.args.first c.args.second i k le;
  zero_right = λ i k le. right c.args.first c.args.second c.requires.first c.requires.second i k le;
}
