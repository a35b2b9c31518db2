use Rattle.std.proofs.Common.{◌≡◌, length}
use Rattle.nc_search.proofs.tests.plain_factors.Given as goal

abbrev pub invariant-loop-t : goal.invariant-loop-t
invariant-loop-t l = length l.row ≡ 10
