use Rattle.std.proofs.Common.{◌≡◌, [], replicate}
use Rattle.nc_mix.specs.Sums.{kept}
use Rattle.nc_mix.proofs.sums.empty_sums.Given as goal

abbrev pub invariant-loop : goal.invariant-loop
invariant-loop l = l.sums.items ≡ replicate l.counter (kept [])
