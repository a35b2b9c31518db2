-- Vectors as functions of the place, and their products with the rows of a table.
use Rattle.std.specs.Prelude.{ℕ, ◌<◌, List, slice_index}
use Rattle.nc_gf256.specs.Field.{mul, total}
use Rattle.nc_matrix.specs.Cells.{entry}

-- the first m entries are bytes
abbrev pub IsVector : ℕ → (ℕ → ℕ) → Type 0
IsVector m z = (k : ℕ) → k < m → z k < 256

-- the dot product of row i with a vector, both of m entries
abbrev pub times : ℕ → List (List ℕ) → ℕ → (ℕ → ℕ) → ℕ
times m rows i z = total m (λ k. mul (entry rows i k) (z k))

-- the sum of the products of a row's first n entries with those of column k
abbrev pub product_entry : ℕ → List ℕ → List (List ℕ) → ℕ → ℕ
product_entry n row rows k = total n (λ j. mul (slice_index row j) (entry rows j k))
