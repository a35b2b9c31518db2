-- Vectors of 32 bytes, and slices that are worked through from the front.
use Rattle.std.specs.Prelude.{◌≡◌, ℕ, ◌+◌, ◌<◌, ◌≤◌, List, length, slice_index, bit_xor}
use Rattle.nc_gf256.specs.Field.{mul}

-- v has 32 lanes, and lane k holds f k
pub record HasLanes (v : List ℕ) (f : ℕ → ℕ) : Type 0 where
  pub long : length v ≡ 32
  pub each : (k : ℕ) → k < 32 → slice_index v k ≡ f k

-- the 32 places from at on hold the lanes of v, and all others what they held before
pub record Stores (at : ℕ) (v old new : List ℕ) : Type 0 where
  pub below : (i : ℕ) → i < at → slice_index new i ≡ slice_index old i
  pub within : (k : ℕ) → k < 32 → slice_index new (at + k) ≡ slice_index v k
  pub above : (i : ℕ) → at + 32 ≤ i → slice_index new i ≡ slice_index old i

-- the places below end hold what is wanted, and those from there on what they held before
pub record IsDoneTo (end : ℕ) (wanted : ℕ → ℕ) (old new : List ℕ) : Type 0 where
  pub done : (i : ℕ) → i < end → slice_index new i ≡ wanted i
  pub rest : (i : ℕ) → end ≤ i → slice_index new i ≡ slice_index old i

-- what the kernels make of place i
abbrev pub summed : List ℕ → List ℕ → ℕ → ℕ
summed dst src i = bit_xor (slice_index dst i) (slice_index src i)

abbrev pub scaled : ℕ → List ℕ → ℕ → ℕ
scaled c dst i = mul c (slice_index dst i)

abbrev pub plus_scaled : ℕ → List ℕ → List ℕ → ℕ → ℕ
plus_scaled c dst src i = bit_xor (slice_index dst i) (mul c (slice_index src i))
