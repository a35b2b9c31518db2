use Rattle.std.proofs.Common.{take}
use Rattle.nc_mix.specs.Strips.{parts_in}
use Rattle.nc_mix.specs.Sums.{Extends}
use Rattle.nc_mix.proofs.sums.extend.Given as goal

abbrev pub invariant-loop-strip : goal.invariant-loop-strip
invariant-loop-strip l = Extends (parts_in l.k (take l.strip-index l.strips)) l.initial.sum l.sum
