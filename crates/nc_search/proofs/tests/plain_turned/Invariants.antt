use Rattle.std.proofs.Common.{◌≡◌, length}
use Rattle.nc_search.proofs.tests.plain_turned.Given as goal

abbrev pub invariant-loop-t : goal.invariant-loop-t
invariant-loop-t l = length l.base ≡ 10
