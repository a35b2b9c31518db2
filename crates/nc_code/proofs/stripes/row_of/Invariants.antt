use Rattle.std.proofs.Common.{◌≡◌, ℕ, ◌<◌, ◌/◌, ◌%◌, length, get_or}
use Rattle.nc_code.specs.Striped.{striped_entry}
use Rattle.nc_code.proofs.stripes.row_of.Given as goal

abbrev pub invariant-loop-i : goal.invariant-loop-i
invariant-loop-i l =
    (length l.entries ≡ 16) × ((k : ℕ) → k < l.i → get_or l.entries k 0 ≡ striped_entry l.width (l.row / 2) (l.row % 2) k)
