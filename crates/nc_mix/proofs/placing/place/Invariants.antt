use Rattle.std.proofs.Common.{◌≡◌, drop}
use Rattle.nc_mix.specs.Placing.{placed}
use Rattle.nc_mix.proofs.placing.place.Given as goal

abbrev pub invariant-loop-strip : goal.invariant-loop-strip
invariant-loop-strip l =
    placed l.k l.strips l.initial.sum ≡ placed l.k (drop l.strip-index l.strips) l.sum
