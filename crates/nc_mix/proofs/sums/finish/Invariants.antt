use Rattle.std.proofs.Common.{◌≡◌, map}
use Rattle.nc_mix.specs.Sums.{kept}
use Rattle.nc_mix.proofs.sums.finish.Given as goal

abbrev pub invariant-loop-sum : goal.invariant-loop-sum
invariant-loop-sum l = l.yielded ≡ map kept l.chunks
