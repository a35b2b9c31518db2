-- What a repair changes, and what stays.
use Rattle.std.proofs.Common.{◌≡◌, ◌≢◌, ℕ, ◌+◌, ◌*◌, ◌<◌, ◌≤◌, List, [], length, get_or, set, map, bit_xor, slice_index, slice_index_or, refl, sym, ap, ◌∙◌, arith, subst, inl, inr}
use Rattle.std.specs.List.{range_with_len}
use Rattle.std.proofs.lemmas.Bool.{cases_lt, cases_eq}
use Rattle.std.proofs.lemmas.Bool.Decides.{nat_tests}
use Rattle.std.proofs.lemmas.List.FromFn.{fill_by_all}
use Rattle.std.proofs.lemmas.List.{get_or-set_same, get_or-set_other, set-set, set_comm, set_past}
use Rattle.nc_gf256.specs.Field.{mul, total}
use Rattle.nc_gf256.specs.Width.{native_count}
use Rattle.nc_gf256.proofs.FieldLaws.{mul_zero}
use Rattle.nc_gf256.proofs.Sums.{total_none, total_more, total_same}
use Rattle.nc_code.specs.Parts.{CodeParts, PlanParts, IsCode, IsPlan}
use Rattle.nc_code.specs.Codes.{code_row, term, repaired_entry, repaired_row, repaired}
use Rattle.nc_code.specs.RepairLaw.{RepairedTwice}
use Rattle.nc_code.proofs.SameParts.{code_of}
use Rattle.nc_code.proofs.FilledRows.{get_or_zero}

pub term_lost : (code : CodeParts) (lost : ℕ) (plan : PlanParts) (r i t : ℕ) → t ≡ lost → term code lost plan r i t ≡ 0
unfolding term
term_lost code lost plan r i t e = grind (arith, nat_tests)

pub term_survivor : (code : CodeParts) (lost : ℕ) (plan : PlanParts) (r i t : ℕ) → t ≢ lost
    → term code lost plan r i t ≡ mul (slice_index (slice_index_or plan.coefs r []) t) (slice_index (code_row code t (slice_index plan.choice t)) i)
unfolding term
term_survivor code lost plan r i t e = grind (arith, nat_tests)

-- a row that holds all sums is the new row
pub whole_row : (code : CodeParts) (lost : ℕ) (plan : PlanParts) (r n : ℕ) (row : List ℕ) → n ≡ code.width → length row ≡ 16
    → ((k : ℕ) → k < 16 → get_or row k 0 ≡ total n (term code lost plan r k)) → row ≡ repaired_row code lost plan r
unfolding repaired_row
whole_row code lost plan r n row e long h =
    fill_by_all (repaired_entry code lost plan r) row 16 0 long (λ k below. h k below ∙ ap (λ m. total m (term code lost plan r k)) e)

-- the sum after a cloud is the sum before it, with what the cloud adds
pub sum_more : (row after : List ℕ) (f : ℕ → ℕ → ℕ) (t : ℕ) → ((k : ℕ) → k < 16 → get_or row k 0 ≡ total t (f k))
    → ((k : ℕ) → get_or after k 0 ≡ bit_xor (get_or row k 0) (f k t)) → (k : ℕ) → k < 16 → get_or after k 0 ≡ total (t + 1) (f k)
sum_more row after f t h more k below =
    more k ∙ ap (λ x. bit_xor x (f k t)) (h k below) ∙ sym (total_more t (f k))

term_past : (code : CodeParts) (lost : ℕ) (plan : PlanParts) (r i t : ℕ) → IsCode code → native_count code.width ≤ i → term code lost plan r i t ≡ 0
term_past code lost plan r i t is past = elim (cases_eq t lost) [
  | inl e ↦ term_lost code lost plan r i t e
  | inr ne ↦
      term_survivor code lost plan r i t ne
      ∙ ap (mul (slice_index (slice_index_or plan.coefs r []) t)) (is.zero_past (2 * t + slice_index plan.choice t) i past)
      ∙ mul_zero (slice_index (slice_index_or plan.coefs r []) t)
]

new_row_past : (code : CodeParts) (lost : ℕ) (plan : PlanParts) (r i : ℕ) → IsCode code → native_count code.width ≤ i → get_or (repaired_row code lost plan r) i 0 ≡ 0
unfolding repaired_row
new_row_past code lost plan r i is past =
    get_or_zero (repaired_entry code lost plan r) 16 i (λ _. total_none code.width (term code lost plan r i) (λ t _. term_past code lost plan r i t is past))

set_zero : (rows : List (List ℕ)) (j : ℕ) (row : List ℕ) (k : ℕ) → get_or row k 0 ≡ 0 → ((i : ℕ) → get_or (get_or rows i []) k 0 ≡ 0)
    → (i : ℕ) → get_or (get_or (set rows j row) i []) k 0 ≡ 0
set_zero rows j row k here there i = elim (cases_lt j (length rows)) [
  | inl within ↦ elim (cases_eq i j) [
    | inl e ↦ rw (e, get_or-set_same rows j row [] within) here
    | inr ne ↦ rw (get_or-set_other rows j i row [] ne) (there i)
  ]
  | inr past ↦ rw (set_past rows j row past) (there i)
]

-- the new rows are 0 past the natives, as the old ones are
pub natives_past : (code : CodeParts) (w : ℕ) (rows : List (List ℕ)) (lost : ℕ) (plan : PlanParts) (first second : List ℕ) → code_of w rows ≡ code → IsCode code
    → first ≡ repaired_row code lost plan 0 → second ≡ repaired_row code lost plan 1 → (i k : ℕ) → native_count w ≤ k
    → get_or (get_or (set (set rows (2 * lost) first) (2 * lost + 1) second) i []) k 0 ≡ 0
natives_past code w rows lost plan first second is kept is_first is_second i k past =
    let wide : w ≡ code.width = ap (λ (x : CodeParts). x.width) is in
    let old : rows ≡ code.rows = ap (λ (x : CodeParts). x.rows) is in
    let beyond : native_count code.width ≤ k = subst (λ (n : ℕ). native_count n ≤ k) wide past in
    set_zero (set rows (2 * lost) first) (2 * lost + 1) second k
    (rw is_second (new_row_past code lost plan 1 k kept beyond))
    (set_zero rows (2 * lost) first k (rw is_first (new_row_past code lost plan 0 k kept beyond)) (λ j. rw old (kept.zero_past j k beyond)))
    i

-- what the body makes is the repaired code
pub repaired_is : (code : CodeParts) (w : ℕ) (rows : List (List ℕ)) (lost : ℕ) (plan : PlanParts) (first second : List ℕ) → code_of w rows ≡ code
    → first ≡ repaired_row code lost plan 0 → second ≡ repaired_row code lost plan 1
    → code_of w (set (set rows (2 * lost) first) (2 * lost + 1) second) ≡ repaired code lost plan
unfolding repaired
repaired_is code w rows lost plan first second is is_first is_second =
    rw (is_first, is_second) (ap (λ (x : CodeParts). record x { rows = set (set x.rows (2 * lost) (repaired_row code lost plan 0)) (2 * lost + 1) (repaired_row code lost plan 1) }) is)

-- ---- repairing twice

-- the rows of a survivor stay
pub survivor_row : (code : CodeParts) (lost : ℕ) (plan : PlanParts) (t r : ℕ) → t ≢ lost → r < 2 → code_row (repaired code lost plan) t r ≡ code_row code t r
unfolding repaired
survivor_row code lost plan t r ne below =
    get_or-set_other (set code.rows (2 * lost) (repaired_row code lost plan 0)) (2 * lost + 1) (2 * t + r) (repaired_row code lost plan 1) [] (omega arith)
    ∙ get_or-set_other code.rows (2 * lost) (2 * t + r) (repaired_row code lost plan 0) [] (omega arith)

term_stays : (code : CodeParts) (lost : ℕ) (plan : PlanParts) (r i t : ℕ) → IsPlan plan → term (repaired code lost plan) lost plan r i t ≡ term code lost plan r i t
term_stays code lost plan r i t is = elim (cases_eq t lost) [
  | inl e ↦ term_lost (repaired code lost plan) lost plan r i t e ∙ sym (term_lost code lost plan r i t e)
  | inr ne ↦
      term_survivor (repaired code lost plan) lost plan r i t ne
      ∙ ap (λ (row : List ℕ). mul (slice_index (slice_index_or plan.coefs r []) t) (slice_index row i)) (survivor_row code lost plan t (slice_index plan.choice t) ne (is.choices t))
      ∙ sym (term_survivor code lost plan r i t ne)
]

pub repaired_width : (code : CodeParts) (lost : ℕ) (plan : PlanParts) → (repaired code lost plan).width ≡ code.width
unfolding repaired
repaired_width code lost plan = refl

entry_stays : (code : CodeParts) (lost : ℕ) (plan : PlanParts) (r i : ℕ) → IsPlan plan → repaired_entry (repaired code lost plan) lost plan r i ≡ repaired_entry code lost plan r i
entry_stays code lost plan r i is =
    ap (λ n. total n (term (repaired code lost plan) lost plan r i)) (repaired_width code lost plan)
    ∙ total_same code.width _ _ (λ t _. term_stays code lost plan r i t is)

row_stays : (code : CodeParts) (lost : ℕ) (plan : PlanParts) (r : ℕ) → IsPlan plan → repaired_row (repaired code lost plan) lost plan r ≡ repaired_row code lost plan r
unfolding repaired_row
row_stays code lost plan r is =
    let same : repaired_entry (repaired code lost plan) lost plan r ≡ repaired_entry code lost plan r = λ j i. entry_stays code lost plan r i is j in
    ap (λ (f : ℕ → ℕ). map f (range_with_len 0 16)) same

-- writing the same two rows again changes nothing
written_twice : (rows : List (List ℕ)) (i j : ℕ) (a b : List ℕ) → j ≢ i → set (set (set (set rows i a) j b) i a) j b ≡ set (set rows i a) j b
written_twice rows i j a b ne =
    ap (λ (x : List (List ℕ)). set x j b) (set_comm (set rows i a) j i b a ne ∙ ap (λ (x : List (List ℕ)). set x j b) (set-set rows i a a))
    ∙ set-set (set rows i a) j b b

again : (w : ℕ) (rows : List (List ℕ)) (i j : ℕ) (u v u2 v2 : List ℕ) → j ≢ i → u2 ≡ u → v2 ≡ v
    → code_of w (set (set (set (set rows i u) j v) i u2) j v2) ≡ code_of w (set (set rows i u) j v)
again w rows i j u v u2 v2 ne e f = rw (e, f) (ap (code_of w) (written_twice rows i j u v ne))

pub repaired_twice : RepairedTwice
unfolding repaired
repaired_twice code lost plan is =
    again code.width code.rows (2 * lost) (2 * lost + 1) _ _ _ _ (omega arith) (row_stays code lost plan 0 is) (row_stays code lost plan 1 is)
