-- The square of the rows of all clouds but two.
use Rattle.std.specs.Prelude.{ℕ, ◌≡◌, ◌/◌, ◌%◌, ◌<◌}
use Rattle.nc_gf256.specs.Width.{native_count}
use Rattle.nc_code.specs.Parts.{CodeParts}
use Rattle.nc_code.specs.Codes.{code_row}
use Rattle.nc_matrix.specs.Cells.{row_of}
use Rattle.nc_matrix.specs.declared.square.Square.{Square}
use Rattle.nc_mds.specs.Verdicts.{other_cloud}

-- row i is row i % 2 of the cloud at position i / 2 among those other than a and b
pub record AreOthers (code : CodeParts) (a b : ℕ) (square : Square) : Type 0 where
  pub size : square.size ≡ native_count code.width
  pub rows : (i : ℕ) → i < native_count code.width → row_of square.cells i ≡ code_row code (other_cloud a b (i / 2)) (i % 2)
