-- The laws of a field, as facts of an operation at given numbers.
use Rattle.std.specs.Prelude.{ℕ, ◌≡◌, ◌≢◌, ◌<◌, bit_xor}
use Rattle.nc_gf256.specs.Field.{mul}

-- the order of the two does not matter
abbrev pub Commutes : (ℕ → ℕ → ℕ) → ℕ → ℕ → Type 0
Commutes op a b = op a b ≡ op b a

-- nor does the grouping of three
abbrev pub Associates : (ℕ → ℕ → ℕ) → ℕ → ℕ → ℕ → Type 0
Associates op a b c = op (op a b) c ≡ op a (op b c)

-- the product of a with a sum is the sum of the products
abbrev pub Distributes : ℕ → ℕ → ℕ → Type 0
Distributes a b c = mul a (bit_xor b c) ≡ bit_xor (mul a b) (mul a c)

-- a byte other than 0 has a byte whose product with it is 1
abbrev pub HasInverse : ℕ → Type 0
HasInverse a = a ≢ 0 → (b : ℕ) × (b < 256) × (mul a b ≡ 1)
