-- Rows read at every place: past their end both sides of a fact are 0.
use Rattle.std.proofs.Common.{◌≡◌, ℕ, ◌<◌, ◌≤◌, List, [], length, get_or, slice_index, replicate, sym, ap, ◌∙◌, arith, inl, inr}
use Rattle.std.proofs.lemmas.Bool.{cases_lt}
use Rattle.std.proofs.lemmas.List.{get_or_past, get_or-replicate, length-replicate}
use lib.Bits.{bit_xor}
use Rattle.nc_bytes.specs.Bytes.{AreBytes}
use Rattle.nc_gf256.specs.Field.{mul}
use Rattle.nc_gf256.proofs.FieldLaws.{mul_lt, mul_zero}
use Rattle.nc_gf256.proofs.Sums.{xor_byte}

pub zero_past_end : (xs : List ℕ) (m i : ℕ) → length xs ≡ m → m ≤ i → slice_index xs i ≡ 0
zero_past_end xs m i h le = get_or_past xs i 0 (omega (arith, h))

-- a row of zeros is 0 at every place
pub zeros_everywhere : (m i : ℕ) → slice_index (replicate m 0) i ≡ 0
zeros_everywhere m i = elim (cases_lt i m) [
  | inl lt ↦ get_or-replicate m i 0 0 lt
  | inr past ↦ get_or_past (replicate m 0) i 0 (omega (arith, length-replicate {A = ℕ} m 0))
]

-- so is a table of such rows
pub zeros_in_table : (n m i k : ℕ) → slice_index (get_or (replicate n (replicate m 0)) i []) k ≡ 0
zeros_in_table n m i k = elim (cases_lt i n) [
  | inl lt ↦ ap (λ (row : List ℕ). slice_index row k) (get_or-replicate n i (replicate m 0) [] lt) ∙ zeros_everywhere m k
  | inr past ↦ ap (λ (row : List ℕ). slice_index row k) (get_or_past (replicate n (replicate m 0)) i [] (omega (arith, length-replicate {A = List ℕ} n (replicate m 0))))
]

pub sum_everywhere : (m : ℕ) (s row other : List ℕ) (t : ℕ) → length s ≡ m → length row ≡ m → length other ≡ m → ((i : ℕ) → i < m → slice_index s i ≡ bit_xor (slice_index row i) (mul t (slice_index other i))) → (i : ℕ) → slice_index s i ≡ bit_xor (slice_index row i) (mul t (slice_index other i))
sum_everywhere m s row other t ls lr lo h i = elim (cases_lt i m) [
  | inl lt ↦ h i lt
  | inr past ↦
      zero_past_end s m i ls past
      ∙ sym (mul_zero t)
      ∙ ap (mul t) (sym (zero_past_end other m i lo past))
      ∙ ap (λ x. bit_xor x (mul t (slice_index other i))) (sym (zero_past_end row m i lr past))
]

pub sum_bytes : (s row other : List ℕ) (t : ℕ) → t < 256 → AreBytes row → ((i : ℕ) → slice_index s i ≡ bit_xor (slice_index row i) (mul t (slice_index other i))) → AreBytes s
sum_bytes s row other t lt rows h i =
    rw (h i) (xor_byte (slice_index row i) (mul t (slice_index other i)) (rows i) (mul_lt t (slice_index other i) lt))
