-- The product of a new row with a vector, from the products of the rows that the plan chooses.
use Rattle.std.proofs.Common.{◌≡◌, ◌≢◌, ℕ, ◌*◌, ◌+◌, ◌<◌, ◌≤◌, ◌==◌, [], length, get_or, set, slice_index, slice_index_or, sym, ap, ◌∙◌, arith, inl, inr, if◌then◌else◌}
use Rattle.std.proofs.lemmas.Bool.{cases_eq}
use Rattle.std.proofs.lemmas.Bool.Decides.{nat_tests}
use Rattle.std.proofs.lemmas.List.{get_or-set_same, get_or-set_other, length-set}
use Rattle.std.proofs.lemmas.List.FromFn.{get_or-map-range_with_len}
use Rattle.nc_bytes.specs.Bytes.{AreBytes}
use Rattle.nc_gf256.specs.Field.{mul, total}
use Rattle.nc_gf256.proofs.FieldLaws.{mul_lt, mul_assoc, mul_zero, zero_mul_any}
use Rattle.nc_gf256.proofs.Sums.{total_same, total_none, total_swap, mul-total_left, mul-total_right}
use Rattle.nc_code.specs.Parts.{CodeParts, PlanParts}
use Rattle.nc_code.specs.Codes.{code_row, term, repaired_entry, repaired_row, repaired}
use Rattle.nc_code.proofs.RepairLemmas.{term_lost, term_survivor}

-- row r of the lost cloud after the repair
pub lost_row : (code : CodeParts) (lost : ℕ) (plan : PlanParts) (r : ℕ) → 2 * lost + 1 < length code.rows → r < 2 → code_row (repaired code lost plan) lost r ≡ repaired_row code lost plan r
unfolding repaired
lost_row code lost plan r within pair =
    let first = repaired_row code lost plan 0 in
    let second = repaired_row code lost plan 1 in
    elim (cases_eq r 0) [
      | inl e ↦
          ap (λ (k : ℕ). get_or (set (set code.rows (2 * lost) first) (2 * lost + 1) second) (2 * lost + k) []) e
          ∙ get_or-set_other (set code.rows (2 * lost) first) (2 * lost + 1) (2 * lost + 0) second [] (omega arith)
          ∙ ap (λ (k : ℕ). get_or (set code.rows (2 * lost) first) k []) (omega arith)
          ∙ get_or-set_same code.rows (2 * lost) first [] (omega arith)
          ∙ ap (repaired_row code lost plan) (sym e)
      | inr ne ↦
          let one : r ≡ 1 = omega arith in
          ap (λ (k : ℕ). get_or (set (set code.rows (2 * lost) first) (2 * lost + 1) second) (2 * lost + k) []) one
          ∙ get_or-set_same (set code.rows (2 * lost) first) (2 * lost + 1) second [] (omega (arith, length-set code.rows (2 * lost) first))
          ∙ ap (repaired_row code lost plan) (sym one)
    ]

-- the factor of cloud t in the new row r
abbrev pub coef : PlanParts → ℕ → ℕ → ℕ
coef plan r t = slice_index (slice_index_or plan.coefs r []) t

-- entry i of the row that a plan takes from cloud t
abbrev pub chosen : CodeParts → PlanParts → ℕ → ℕ → ℕ
chosen code plan t i = slice_index (code_row code t (slice_index plan.choice t)) i

-- what cloud t adds to the product of the new row r with a vector, from the product of its chosen row
abbrev pub product_term : ℕ → PlanParts → ℕ → (ℕ → ℕ) → ℕ → ℕ
product_term lost plan r value t = if t == lost then 0 else mul (coef plan r t) (value t)

-- the rows and the factors are bytes
pub record AreFactors (code : CodeParts) (plan : PlanParts) : Type 0 where
  pub rows : (i : ℕ) → AreBytes (slice_index_or code.rows i [])
  pub coefs : (r : ℕ) → AreBytes (slice_index_or plan.coefs r [])

term_byte : (code : CodeParts) (lost : ℕ) (plan : PlanParts) (r i t : ℕ) → AreFactors code plan → term code lost plan r i t < 256
term_byte code lost plan r i t are = elim (cases_eq t lost) [
  | inl e ↦ rw (term_lost code lost plan r i t e) (omega arith)
  | inr ne ↦ rw (term_survivor code lost plan r i t ne) (mul_lt (coef plan r t) (chosen code plan t i) (are.coefs r t))
]

at_lost : (lost : ℕ) (plan : PlanParts) (r : ℕ) (value : ℕ → ℕ) (t : ℕ) → t ≡ lost → product_term lost plan r value t ≡ 0
at_lost lost plan r value t e = grind (arith, nat_tests)

at_survivor : (lost : ℕ) (plan : PlanParts) (r : ℕ) (value : ℕ → ℕ) (t : ℕ) → t ≢ lost → product_term lost plan r value t ≡ mul (coef plan r t) (value t)
at_survivor lost plan r value t ne = grind (arith, nat_tests)

cloud_product : (code : CodeParts) (lost : ℕ) (plan : PlanParts) (r m : ℕ) (x : ℕ → ℕ) (t : ℕ) → AreFactors code plan → ((i : ℕ) → x i < 256)
    → total m (λ i. mul (term code lost plan r i t) (x i)) ≡ product_term lost plan r (λ c. total m (λ i. mul (chosen code plan c i) (x i))) t
cloud_product code lost plan r m x t are bytes = elim (cases_eq t lost) [
  | inl e ↦
      total_none m _ (λ i _. ap (λ a. mul a (x i)) (term_lost code lost plan r i t e) ∙ zero_mul_any (x i))
      ∙ sym (at_lost lost plan r (λ c. total m (λ i. mul (chosen code plan c i) (x i))) t e)
  | inr ne ↦
      total_same m _ _ (λ i _.
      ap (λ a. mul a (x i)) (term_survivor code lost plan r i t ne)
      ∙ mul_assoc (coef plan r t) (chosen code plan t i) (x i) (are.coefs r t) (are.rows (2 * t + slice_index plan.choice t) i) (bytes i))
      ∙ sym (mul-total_right (coef plan r t) m (λ i. mul (chosen code plan t i) (x i)))
      ∙ sym (at_survivor lost plan r (λ c. total m (λ i. mul (chosen code plan c i) (x i))) t ne)
]

-- The product of the new row r with a vector is the sum, over the survivors t, of coefs[r][t] times the product of the
-- row that the plan takes from t.
pub new_row_product : (code : CodeParts) (lost : ℕ) (plan : PlanParts) (r m : ℕ) (x : ℕ → ℕ) → m ≤ 16 → AreFactors code plan → ((i : ℕ) → x i < 256)
    → total m (λ i. mul (slice_index (repaired_row code lost plan r) i) (x i)) ≡ total code.width (product_term lost plan r (λ t. total m (λ i. mul (chosen code plan t i) (x i))))
unfolding repaired_row
new_row_product code lost plan r m x few are bytes =
    total_same m _ _ (λ i below.
    ap (λ a. mul a (x i)) (get_or-map-range_with_len (repaired_entry code lost plan r) 0 16 i i 0 (omega arith) (omega arith))
    ∙ mul-total_left code.width (term code lost plan r i) (x i) (λ t _. term_byte code lost plan r i t are))
    ∙ total_swap m code.width (λ i t. mul (term code lost plan r i t) (x i))
    ∙ total_same code.width _ _ (λ t _. cloud_product code lost plan r m x t are bytes)

-- where all chosen rows send a vector to 0, so do the new rows
pub new_row_zero : (code : CodeParts) (lost : ℕ) (plan : PlanParts) (r m : ℕ) (x : ℕ → ℕ) → m ≤ 16 → AreFactors code plan → ((i : ℕ) → x i < 256)
    → ((t : ℕ) → t < code.width → t ≢ lost → total m (λ i. mul (chosen code plan t i) (x i)) ≡ 0)
    → total m (λ i. mul (slice_index (repaired_row code lost plan r) i) (x i)) ≡ 0
new_row_zero code lost plan r m x few are bytes zero =
    new_row_product code lost plan r m x few are bytes
    ∙ total_none code.width _ (λ t below. elim (cases_eq t lost) [
      | inl e ↦ at_lost lost plan r (λ c. total m (λ i. mul (chosen code plan c i) (x i))) t e
      | inr ne ↦
          at_survivor lost plan r (λ c. total m (λ i. mul (chosen code plan c i) (x i))) t ne
          ∙ ap (mul (coef plan r t)) (zero t below ne) ∙ mul_zero (coef plan r t)
    ])
