-- The rows of the striped code, and their dot products with a vector.
use Rattle.std.proofs.Common.{◌≡◌, ◌≢◌, ℕ, ◌+◌, ◌-◌, ◌*◌, ◌/◌, ◌%◌, ◌^◌, ◌<◌, ◌≤◌, List, [], map, bit_xor, slice_index, refl, sym, ap, ◌∙◌, arith, inl, inr}
use Rattle.std.specs.List.{range_with_len}
use Rattle.std.proofs.lemmas.Bool.{cases_eq}
use Rattle.std.proofs.lemmas.Bool.Decides.{nat_tests}
use Rattle.std.proofs.lemmas.List.FromFn.{get_or-map-range_with_len}
use Rattle.nc_gf256.specs.Field.{mul, total}
use Rattle.nc_gf256.specs.Rows.{dot, unit}
use Rattle.nc_gf256.specs.Width.{native_count}
use Rattle.nc_gf256.proofs.FieldLaws.{mul_zero, zero_mul_any}
use Rattle.nc_gf256.proofs.Units.{unit_times}
use Rattle.nc_gf256.proofs.Sums.{total_same, total_one, total_two, total_three}
use Rattle.nc_code.specs.Codes.{code_row}
use Rattle.nc_code.specs.Striped.{stripe, striped_entry, striped_row, striped_code}

-- ---- entries

pub row_is : (n c s : ℕ) → c < 10 → s < 2 → code_row (striped_code n) c s ≡ map (striped_entry n c s) (range_with_len 0 16)
unfolding striped_code
row_is n c s small pair =
    let cloud : (2 * c + s) / 2 ≡ c = omega arith in
    let place : (2 * c + s) % 2 ≡ s = omega arith in
    get_or-map-range_with_len (striped_row n) 0 20 (2 * c + s) (2 * c + s) [] (omega arith) (omega arith)
    ∙ ap (λ d. map (striped_entry n d ((2 * c + s) % 2)) (range_with_len 0 16)) cloud
    ∙ ap (λ r. map (striped_entry n c r) (range_with_len 0 16)) place

pub entry_is : (n c s i : ℕ) → c < 10 → s < 2 → i < 16 → slice_index (code_row (striped_code n) c s) i ≡ striped_entry n c s i
entry_is n c s i small pair below =
    ap (λ (row : List ℕ). slice_index row i) (row_is n c s small pair)
    ∙ get_or-map-range_with_len (striped_entry n c s) 0 16 i i 0 below (omega arith)

entry_native : (n c s i : ℕ) → i < native_count n → c < n - 2 → striped_entry n c s i ≡ unit (2 * c + s) i
entry_native n c s i below low = grind (arith, nat_tests)

entry_sums : (n s i : ℕ) → 4 ≤ n → i < native_count n → striped_entry n (n - 2) s i ≡ stripe s (λ d. 1) i
entry_sums n s i wide below = grind (arith, nat_tests)

entry_powers : (n s i : ℕ) → 4 ≤ n → i < native_count n → striped_entry n (n - 1) s i ≡ stripe s (λ d. 2 ^ d) i
entry_powers n s i wide below = grind (arith, nat_tests)

pub stripe_on : (s k : ℕ) (w : ℕ → ℕ) → k % 2 ≡ s → stripe s w k ≡ w (k / 2)
stripe_on s k w e = grind (arith, nat_tests)

pub stripe_off : (s k : ℕ) (w : ℕ → ℕ) → k % 2 ≢ s → stripe s w k ≡ 0
stripe_off s k w e = grind (arith, nat_tests)

-- ---- dot products

-- the sum over a stripe
abbrev pub along : ℕ → ℕ → (ℕ → ℕ) → (ℕ → ℕ) → ℕ
along n s w x = total (native_count n) (λ i. mul (stripe s w i) (x i))

off_zero : (s k : ℕ) (w x : ℕ → ℕ) → (k % 2 ≡ s → x k ≡ 0) → mul (stripe s w k) (x k) ≡ 0
off_zero s k w x h = elim (cases_eq (k % 2) s) [
  | inl e ↦ ap (mul (stripe s w k)) (h e) ∙ mul_zero (stripe s w k)
  | inr ne ↦ ap (λ a. mul a (x k)) (stripe_off s k w ne) ∙ zero_mul_any (x k)
]

on_place : (s d : ℕ) (w x : ℕ → ℕ) → s < 2 → mul (stripe s w (2 * d + s)) (x (2 * d + s)) ≡ mul (w d) (x (2 * d + s))
on_place s d w x pair =
    let place : (2 * d + s) % 2 ≡ s = omega arith in
    let cloud : (2 * d + s) / 2 ≡ d = omega arith in
    ap (λ a. mul a (x (2 * d + s))) (stripe_on s (2 * d + s) w place ∙ ap w cloud)

-- where x is 0 on all of a stripe but one place or two, the sum has as many terms
pub one_left : (n s d : ℕ) (w x : ℕ → ℕ) → s < 2 → d < n - 2 → ((c : ℕ) → c < n - 2 → c ≢ d → x (2 * c + s) ≡ 0) → along n s w x ≡ mul (w d) (x (2 * d + s))
one_left n s d w x pair low others =
    total_one (native_count n) (λ i. mul (stripe s w i) (x i)) (2 * d + s) (omega arith)
    (λ k below ne. off_zero s k w x (λ e.
    let place : 2 * (k / 2) + s ≡ k = omega arith in
    ap x (sym place) ∙ others (k / 2) (omega arith) (omega arith)))
    ∙ on_place s d w x pair

pub two_left : (n s d e : ℕ) (w x : ℕ → ℕ) → s < 2 → d < n - 2 → e < n - 2 → d ≢ e → ((c : ℕ) → c < n - 2 → c ≢ d → c ≢ e → x (2 * c + s) ≡ 0)
    → along n s w x ≡ bit_xor (mul (w d) (x (2 * d + s))) (mul (w e) (x (2 * e + s)))
two_left n s d e w x pair low low2 apart others =
    total_two (native_count n) (λ i. mul (stripe s w i) (x i)) (2 * d + s) (2 * e + s) (omega arith) (omega arith) (omega arith)
    (λ k below ne ne2. off_zero s k w x (λ is.
    let place : 2 * (k / 2) + s ≡ k = omega arith in
    ap x (sym place) ∙ others (k / 2) (omega arith) (omega arith) (omega arith)))
    ∙ ap (λ a. bit_xor a (mul (stripe s w (2 * e + s)) (x (2 * e + s)))) (on_place s d w x pair)
    ∙ ap (bit_xor (mul (w d) (x (2 * d + s)))) (on_place s e w x pair)

pub three_left : (n s d e f : ℕ) (w x : ℕ → ℕ) → s < 2 → d < n - 2 → e < n - 2 → f < n - 2 → d ≢ e → d ≢ f → e ≢ f
    → ((c : ℕ) → c < n - 2 → c ≢ d → c ≢ e → c ≢ f → x (2 * c + s) ≡ 0)
    → along n s w x ≡ bit_xor (bit_xor (mul (w d) (x (2 * d + s))) (mul (w e) (x (2 * e + s)))) (mul (w f) (x (2 * f + s)))
three_left n s d e f w x pair low low2 low3 de df ef others =
    total_three (native_count n) (λ i. mul (stripe s w i) (x i)) (2 * d + s) (2 * e + s) (2 * f + s) (omega arith) (omega arith) (omega arith) (omega arith) (omega arith) (omega arith)
    (λ k below ne ne2 ne3. off_zero s k w x (λ is.
    let place : 2 * (k / 2) + s ≡ k = omega arith in
    ap x (sym place) ∙ others (k / 2) (omega arith) (omega arith) (omega arith) (omega arith)))
    ∙ ap (λ a. bit_xor (bit_xor a (mul (stripe s w (2 * e + s)) (x (2 * e + s)))) (mul (stripe s w (2 * f + s)) (x (2 * f + s)))) (on_place s d w x pair)
    ∙ ap (λ a. bit_xor (bit_xor (mul (w d) (x (2 * d + s))) a) (mul (stripe s w (2 * f + s)) (x (2 * f + s)))) (on_place s e w x pair)
    ∙ ap (bit_xor (bit_xor (mul (w d) (x (2 * d + s))) (mul (w e) (x (2 * e + s))))) (on_place s f w x pair)

-- the dot products of the rows of a vector, by the kind of the cloud
dot_is : (n c s : ℕ) (v : List ℕ) (f : ℕ → ℕ) → n ≤ 10 → c < n → s < 2 → ((i : ℕ) → i < native_count n → striped_entry n c s i ≡ f i)
    → dot (native_count n) (code_row (striped_code n) c s) v ≡ total (native_count n) (λ i. mul (f i) (slice_index v i))
dot_is n c s v f narrow low pair h =
    total_same (native_count n) _ _ (λ i below.
    ap (λ a. mul a (slice_index v i)) (entry_is n c s i (omega arith) pair (omega arith) ∙ h i below))

pub dot_native : (n c s : ℕ) (v : List ℕ) → n ≤ 10 → c < n - 2 → s < 2 → slice_index v (2 * c + s) < 256
    → dot (native_count n) (code_row (striped_code n) c s) v ≡ slice_index v (2 * c + s)
dot_native n c s v narrow low pair byte =
    dot_is n c s v (unit (2 * c + s)) narrow (omega arith) pair (λ i below. entry_native n c s i below low)
    ∙ unit_times (native_count n) (2 * c + s) (unit (2 * c + s)) (slice_index v) (omega arith) (λ k _. refl) byte

pub dot_sums : (n s : ℕ) (v : List ℕ) → 4 ≤ n → n ≤ 10 → s < 2 → dot (native_count n) (code_row (striped_code n) (n - 2) s) v ≡ along n s (λ d. 1) (slice_index v)
dot_sums n s v wide narrow pair = dot_is n (n - 2) s v (stripe s (λ d. 1)) narrow (omega arith) pair (λ i below. entry_sums n s i wide below)

pub dot_powers : (n s : ℕ) (v : List ℕ) → 4 ≤ n → n ≤ 10 → s < 2 → dot (native_count n) (code_row (striped_code n) (n - 1) s) v ≡ along n s (λ d. 2 ^ d) (slice_index v)
dot_powers n s v wide narrow pair = dot_is n (n - 1) s v (stripe s (λ d. 2 ^ d)) narrow (omega arith) pair (λ i below. entry_powers n s i wide below)
