-- Chunks that are sorted by their rows.
use Rattle.std.specs.Prelude.{ℕ, ◌≡◌, ◌*◌, List, drop}
use Rattle.nc_cloud.specs.Rounds.{row}
use Rattle.nc_write.specs.declared.sealing.Placed.{Placed}
use Rattle.nc_write.specs.Putting.{placed_of}

-- those of the first so many clouds are, and the rest is left
pub record AreByRowTo (chunks : List (List ℕ)) (count : ℕ) (zeros ones : List Placed) (rest : List (List ℕ)) : Type 0 where
  pub zeros_are : zeros ≡ row (placed_of chunks 0) 0 count
  pub ones_are : ones ≡ row (placed_of chunks 1) 0 count
  pub rest_is : rest ≡ drop (2 * count) chunks
