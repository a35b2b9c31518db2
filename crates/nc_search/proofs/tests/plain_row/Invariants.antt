use Rattle.std.proofs.Common.{◌≡◌, ℕ, ◌≤◌, length, get_or}
use Rattle.nc_search.proofs.tests.plain_row.Given as goal

abbrev pub invariant-loop-k : goal.invariant-loop-k
invariant-loop-k l = (length l.row ≡ 16) × ((k : ℕ) → l.natives ≤ k → get_or l.row k 0 ≡ 0)
