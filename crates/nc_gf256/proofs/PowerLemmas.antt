-- The tables hold the powers of 2 and their logarithms; so a product is a power of the sum of the logarithms.
use Rattle.std.proofs.Common.{◌≡◌, ◌≢◌, ℕ, zero, suc, ◌+◌, ◌-◌, ◌<◌, ◌==◌, ◌||◌, true, slice_index, refl, sym, ap, ◌∙◌, arith, inl, inr, eqb-true}
use Rattle.std.proofs.lemmas.Bool.{or_cases}
use Rattle.nc_gf256.specs.declared.tables.TheConstants.{POWERS, LOGARITHMS}
use Rattle.nc_gf256.specs.Field.{double, mul}
use Rattle.nc_gf256.specs.Laws.{HasInverse}
use Rattle.nc_gf256.proofs.Cases.{all_below, all_below_at, same_below, bounded_below}
use Rattle.nc_gf256.proofs.FieldLaws.{mul_assoc, mul_one}

power : ℕ → ℕ
power k = slice_index POWERS k

logarithm : ℕ → ℕ
logarithm a = slice_index LOGARITHMS a

power_zero : power 0 ≡ 1
unfolding power
power_zero = refl

power_255 : power 255 ≡ 1
unfolding power
power_255 = refl

power_more : (k : ℕ) → k < 511 → power (k + 1) ≡ double (power k)
unfolding power
power_more = same_below 511 (λ k. power (k + 1)) (λ k. double (power k)) refl

power_lt : (k : ℕ) → k < 512 → power k < 256
unfolding power
power_lt = bounded_below 512 256 power refl

logarithm_lt : (a : ℕ) → a < 256 → logarithm a < 255
unfolding logarithm
logarithm_lt = bounded_below 256 255 logarithm refl

logarithms_back : all_below 256 (λ a. a == 0 || power (logarithm a) == a) ≡ true
unfolding power logarithm
logarithms_back = refl

power-logarithm : (a : ℕ) → a < 256 → a ≢ 0 → power (logarithm a) ≡ a
power-logarithm a la ne = elim (or_cases (a == 0) (power (logarithm a) == a) (all_below_at 256 (λ a. a == 0 || power (logarithm a) == a) logarithms_back a la)) [
  | inl e ↦ absurd (ne (eqb-true a 0 e))
  | inr e ↦ eqb-true (power (logarithm a)) a e
]

mul_two : (a : ℕ) → a < 256 → mul a 2 ≡ double a
unfolding mul
mul_two = same_below 256 (λ a. mul a 2) double refl

-- powers multiply by adding their exponents
mul-powers : (i j : ℕ) → i + j < 512 → mul (power i) (power j) ≡ power (i + j)
mul-powers i zero h =
    let e : i + 0 ≡ i = omega arith in
    ap (mul (power i)) power_zero ∙ mul_one (power i) (power_lt i (omega arith)) ∙ ap power (sym e)
mul-powers i (suc j) h =
    let next : suc j ≡ j + 1 = omega arith in
    let sum : i + j + 1 ≡ i + suc j = omega arith in
    let pi = power_lt i (omega arith) in
    let pj = power_lt j (omega arith) in
    let pij = power_lt (i + j) (omega arith) in
    ap (λ k. mul (power i) (power k)) next
    ∙ ap (mul (power i)) (power_more j (omega arith) ∙ sym (mul_two (power j) pj))
    ∙ sym (mul_assoc (power i) (power j) 2 pi pj (omega arith))
    ∙ ap (λ k. mul k 2) (mul-powers i j (omega arith))
    ∙ mul_two (power (i + j)) pij
    ∙ sym (power_more (i + j) (omega arith))
    ∙ ap power sum

-- the product by the tables
pub product_read : (a b : ℕ) → a < 256 → b < 256 → a ≢ 0 → b ≢ 0 → slice_index POWERS (slice_index LOGARITHMS a + slice_index LOGARITHMS b) ≡ mul a b
unfolding power logarithm
product_read a b la lb na nb =
    let i = logarithm_lt a la in
    let j = logarithm_lt b lb in
    sym (mul-powers (logarithm a) (logarithm b) (omega arith))
    ∙ ap (λ k. mul k (power (logarithm b))) (power-logarithm a la na)
    ∙ ap (mul a) (power-logarithm b lb nb)

-- the inverse by the tables
pub inverse_read : (a : ℕ) → a < 256 → a ≢ 0 → mul a (slice_index POWERS (255 - slice_index LOGARITHMS a)) ≡ 1
unfolding power logarithm
inverse_read a la na =
    let i = logarithm_lt a la in
    let sum : logarithm a + (255 - logarithm a) ≡ 255 = omega arith in
    ap (λ k. mul k (power (255 - logarithm a))) (sym (power-logarithm a la na))
    ∙ mul-powers (logarithm a) (255 - logarithm a) (omega arith)
    ∙ ap power sum
    ∙ power_255

pub has_inverse : (a : ℕ) → a < 256 → HasInverse a
unfolding power logarithm
has_inverse a la na = (power (255 - logarithm a), power_lt (255 - logarithm a) (omega arith), inverse_read a la na)
