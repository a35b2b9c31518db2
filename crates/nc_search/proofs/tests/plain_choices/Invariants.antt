use Rattle.std.proofs.Common.{◌≡◌, ℕ, ◌<◌, length, get_or}
use Rattle.nc_search.proofs.tests.plain_choices.Given as goal

abbrev pub invariant-loop-t : goal.invariant-loop-t
invariant-loop-t l = (length l.choice ≡ 10) × ((k : ℕ) → get_or l.choice k 0 < 2)
