-- The identity, and sums of its products.
use Rattle.std.proofs.Common.{◌≡◌, ◌≢◌, ℕ, ◌<◌, ◌==◌, refl, sym, ap, ◌∙◌, arith, inl, inr, eq-eqb, ne_eqb}
use Rattle.std.proofs.lemmas.Bool.{cases_eq, cond-true, cond-false}
use Rattle.nc_gf256.specs.Field.{mul, total}
use Rattle.nc_gf256.specs.Rows.{unit}
use Rattle.nc_gf256.proofs.FieldLaws.{mul_zero, mul_one, one_mul, zero_mul_any}
use Rattle.nc_gf256.proofs.Sums.{total_one}

pub unit_same : (i : ℕ) → unit i i ≡ 1
unit_same i = cond-true (i == i) 1 0 (eq-eqb i i refl)

pub unit_other : (i k : ℕ) → i ≢ k → unit i k ≡ 0
unit_other i k ne = cond-false (i == k) 1 0 (ne_eqb i k ne)

pub unit_lt : (i k : ℕ) → unit i k < 256
unit_lt i k = elim (cases_eq i k) [
  | inl e ↦ rw (e, unit_same k) (omega arith)
  | inr ne ↦ rw (unit_other i k ne) (omega arith)
]

-- row i of the identity picks entry i
pub unit_times : (n i : ℕ) (f z : ℕ → ℕ) → i < n → ((k : ℕ) → k < n → f k ≡ unit i k) → z i < 256 → total n (λ k. mul (f k) (z k)) ≡ z i
unit_times n i f z li h byte =
    total_one n (λ k. mul (f k) (z k)) i li
    (λ k lk ne. ap (λ x. mul x (z k)) (h k lk ∙ unit_other i k (λ e. ne (sym e))) ∙ zero_mul_any (z k))
    ∙ ap (λ x. mul x (z i)) (h i li ∙ unit_same i)
    ∙ one_mul (z i) byte

-- and so does column k
pub times_unit : (n k : ℕ) (f : ℕ → ℕ) → k < n → f k < 256 → total n (λ j. mul (f j) (unit j k)) ≡ f k
times_unit n k f lk byte =
    total_one n (λ j. mul (f j) (unit j k)) k lk
    (λ j lj ne. ap (mul (f j)) (unit_other j k ne) ∙ mul_zero (f j))
    ∙ ap (mul (f k)) (unit_same k)
    ∙ mul_one (f k) byte
