use Rattle.std.proofs.Common.{◌≡◌, ℕ, [], ◌<◌, length, get_or}
use Rattle.nc_code.specs.Striped.{striped_row}
use Rattle.nc_code.proofs.stripes.striped.Given as goal

abbrev pub invariant-loop-row : goal.invariant-loop-row
invariant-loop-row l = (length l.rows ≡ 20) × ((k : ℕ) → k < l.row → get_or l.rows k [] ≡ striped_row l.width k)
