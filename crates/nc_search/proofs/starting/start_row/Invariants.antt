use Rattle.std.proofs.Common.{◌≡◌, ℕ, ◌<◌, length, get_or}
use Rattle.nc_search.specs.Starts.{start_entry}
use Rattle.nc_search.proofs.starting.start_row.Given as goal

abbrev pub invariant-loop-k : goal.invariant-loop-k
invariant-loop-k l = (length l.row ≡ 16) × ((j : ℕ) → j < l.k → get_or l.row j 0 ≡ start_entry l.width l.block l.i j)
