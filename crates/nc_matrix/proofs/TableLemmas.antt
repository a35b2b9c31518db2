-- Entries of the identity, and of tables after a row is replaced.
use Rattle.std.proofs.Common.{◌≡◌, ◌≢◌, ℕ, ◌<◌, ◌==◌, List, [], length, replicate, slice_index, slice_set, refl, sym, ap, ◌∙◌, inl, inr, get_or-set_other, get_or-set_same, eq-eqb, ne_eqb}
use Rattle.std.proofs.lemmas.Bool.{cases_lt, cases_eq, cond-true, cond-false}
use lib.Bits.{bit_xor, xor_zero_r}
use Rattle.nc_gf256.specs.Field.{mul}
use Rattle.nc_gf256.proofs.FieldLaws.{zero_mul_any}
use Rattle.std.proofs.lemmas.List.{get_or_past, get_or-replicate}
use Rattle.nc_gf256.proofs.RowSums.{zeros_everywhere}
use Rattle.nc_gf256.proofs.Units.{unit_same, unit_other}
use Rattle.nc_matrix.specs.Cells.{entry}
use Rattle.nc_gf256.specs.Rows.{unit}
use Rattle.nc_matrix.specs.Elimination.{IsSheared, lifting, clearing}

pub entry-set_same : (rows : List (List ℕ)) (i : ℕ) (row : List ℕ) (k : ℕ) → i < length rows → entry (slice_set rows i row) i k ≡ slice_index row k
entry-set_same rows i row k lt = ap (λ r. slice_index r k) (get_or-set_same rows i row [] lt)

pub entry-set_other : (rows : List (List ℕ)) (i j : ℕ) (row : List ℕ) (k : ℕ) → j ≢ i → entry (slice_set rows i row) j k ≡ entry rows j k
entry-set_other rows i j row k ne = ap (λ r. slice_index r k) (get_or-set_other rows i j row [] ne)

-- nothing is added where the multiple is 0
pub add_none : (t x y : ℕ) → t ≡ 0 → x ≡ bit_xor x (mul t y)
add_none t x y e = sym (ap (λ t. bit_xor x (mul t y)) e ∙ ap (bit_xor x) (zero_mul_any y) ∙ xor_zero_r x)

-- row c is itself the pivot row: nothing is added
pub lifting_none : (c p i : ℕ) → p ≡ c → lifting c p i ≡ 0
lifting_none c p i e = cond-true (p == c) 0 (unit c i) (eq-eqb p c e)

pub lifting_some : (c p i : ℕ) → p ≢ c → lifting c p i ≡ unit c i
lifting_some c p i ne = cond-false (p == c) 0 (unit c i) (ne_eqb p c ne)

-- row p added to row c
pub lift_sums : (n : ℕ) (rows : List (List ℕ)) (c p : ℕ) (row : List ℕ) → c < length rows → p ≢ c → ((k : ℕ) → slice_index row k ≡ bit_xor (entry rows c k) (mul 1 (entry rows p k))) → IsSheared n p (lifting c p) rows (slice_set rows c row)
lift_sums n rows c p row within ne sums i k lt = elim (cases_eq i c) [
  | inl e ↦
      rw e (entry-set_same rows c row k within ∙ sums k ∙ ap (λ t. bit_xor (entry rows c k) (mul t (entry rows p k))) (sym (lifting_some c p c ne ∙ unit_same c)))
  | inr other ↦
      entry-set_other rows c i row k other
      ∙ add_none (lifting c p i) (entry rows i k) (entry rows p k) (lifting_some c p i ne ∙ unit_other c i (λ e. other (sym e)))
]

-- nothing is added where row c is itself the pivot
pub lift_none : (n : ℕ) (rows : List (List ℕ)) (c p : ℕ) → p ≡ c → IsSheared n p (lifting c p) rows rows
lift_none n rows c p e i k lt = add_none (lifting c p i) (entry rows i k) (entry rows p k) (lifting_none c p i e)

pub clearing_here : (c : ℕ) (rows : List (List ℕ)) → clearing c rows c ≡ 0
clearing_here c rows = cond-true (c == c) 0 (entry rows c c) (eq-eqb c c refl)

pub clearing_other : (c : ℕ) (rows : List (List ℕ)) (i : ℕ) → i ≢ c → clearing c rows i ≡ entry rows i c
clearing_other c rows i ne = cond-false (i == c) 0 (entry rows i c) (ne_eqb i c ne)

-- a table of zeros is 0 at every entry
pub zero_table : (i k : ℕ) → entry (replicate 16 (replicate 16 0)) i k ≡ 0
zero_table i k = elim (cases_lt i 16) [
  | inl lt ↦ ap (λ r. slice_index r k) (get_or-replicate 16 i (replicate 16 0) [] lt) ∙ zeros_everywhere 16 k
  | inr past ↦ ap (λ r. slice_index r k) (get_or_past (replicate 16 (replicate 16 0)) i [] past)
]
