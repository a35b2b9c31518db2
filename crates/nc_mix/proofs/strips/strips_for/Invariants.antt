use Rattle.std.proofs.Common.{◌≡◌, length}
use Rattle.nc_mix.proofs.strips.strips_for.Given as goal

abbrev pub invariant-loop : goal.invariant-loop
invariant-loop l = length l.strips.items ≡ l.counter
