-- Relations between the rows of all clouds.
use Rattle.std.specs.Prelude.{ℕ, ◌≡◌, ◌+◌, ◌-◌, ◌*◌, ◌/◌, ◌%◌, ◌<◌, List, [], ◌∷◌, slice_index}
use Rattle.nc_bytes.specs.Bytes.{AreBytes}
use Rattle.nc_gf256.specs.Field.{mul, total}
use Rattle.nc_gf256.specs.Rows.{Independent, dot, unit}
use Rattle.nc_gf256.specs.Width.{native_count}
use Rattle.nc_code.specs.Parts.{CodeParts}
use Rattle.nc_code.specs.Codes.{code_row}
use Rattle.nc_matrix.specs.Cells.{row_of, entry}
use Rattle.nc_matrix.specs.Inverted.{IsRowAmong}
use Rattle.nc_matrix.specs.Products.{product_entry}
use Rattle.nc_matrix.specs.declared.square.Square.{Square}

-- what row i of a code sends a vector to
abbrev pub image : CodeParts → List ℕ → ℕ → ℕ
image code v i = dot (native_count code.width) (row_of code.rows i) v

-- The rows of the code add up to 0 with the factors of each of the four relations. The rows of all clouds together are
-- independent.
pub record AreRelations (code : CodeParts) (relations : List (List ℕ)) : Type 0 where
  pub sum : (v : List ℕ) → AreBytes v → (j : ℕ) → j < 4 → total (2 * code.width) (λ i. mul (entry relations j i) (image code v i)) ≡ 0
  pub full : Independent (native_count code.width) (IsRowAmong (2 * code.width) code.rows)

-- relation j: row j of the last two clouds times an inverse of the rows of the others, and then row j of the identity
pub record AreSolved (code : CodeParts) (inverse relations : List (List ℕ)) : Type 0 where
  pub left : (j i : ℕ) → j < 4 → i < native_count code.width
      → entry relations j i ≡ product_entry (native_count code.width) (code_row code (code.width - 2 + j / 2) (j % 2)) inverse i
  pub right : (j i : ℕ) → j < 4 → i < 4 → entry relations j (native_count code.width + i) ≡ unit j i

-- what a function of the rows says of those of clouds a and b
abbrev pub four : (ℕ → ℕ) → ℕ → ℕ → List ℕ
four f a b = f (2 * a) ∷ f (2 * a + 1) ∷ f (2 * b) ∷ f (2 * b + 1) ∷ []

-- the relations' factors of the rows of clouds a and b
pub record IsMinor (a b : ℕ) (relations : List (List ℕ)) (square : Square) : Type 0 where
  pub size : square.size ≡ 4
  pub entries : (j k : ℕ) → j < 4 → entry square.cells j k ≡ slice_index (four (slice_index (row_of relations j)) a b) k
