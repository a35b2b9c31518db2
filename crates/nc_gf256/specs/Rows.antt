-- Rows of bytes, and when they are independent.
use Rattle.std.specs.Prelude.{ℕ, ◌≡◌, ◌<◌, ◌==◌, if◌then◌else◌, List, slice_index}
use Rattle.nc_bytes.specs.Bytes.{AreBytes}
use Rattle.nc_gf256.specs.Field.{mul, total}

-- the dot product of the first k bytes of two lists
abbrev pub dot : ℕ → List ℕ → List ℕ → ℕ
dot k row v = total k (λ i. mul (slice_index row i) (slice_index v i))

-- the identity: 1 where two numbers are equal, else 0
abbrev pub unit : ℕ → ℕ → ℕ
unit i k = if i == k then 1 else 0

-- The rows of which IsRow speaks are independent: of the lists of k bytes, only the zeros have dot product 0 with each.
-- What stands past k in a row or in v is not read.
pub record Independent (k : ℕ) (IsRow : List ℕ → Type 0) : Type 0 where
  pub only_zeros : (v : List ℕ) → AreBytes v → ((row : List ℕ) → IsRow row → dot k row v ≡ 0) → (i : ℕ) → i < k → slice_index v i ≡ 0
