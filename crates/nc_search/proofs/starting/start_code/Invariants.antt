use Rattle.std.proofs.Common.{◌≡◌, ℕ, [], ◌<◌, length, get_or}
use Rattle.nc_search.specs.Starts.{start_row}
use Rattle.nc_search.proofs.starting.start_code.Given as goal

abbrev pub invariant-loop-i : goal.invariant-loop-i
invariant-loop-i l = (length l.rows ≡ 20) × ((k : ℕ) → k < l.i → get_or l.rows k [] ≡ start_row l.width l.block k)
