use Rattle.std.proofs.Common.{◌*◌}
use Rattle.nc_lanes.specs.Lanes.{IsDoneTo, summed}
use Rattle.nc_lanes.proofs.xor_into.Given as goal

abbrev pub invariant-loop-block : goal.invariant-loop-block
invariant-loop-block l = IsDoneTo (32 * l.block) (summed l.fn.dst l.fn.src) l.fn.dst l.dst

abbrev pub invariant-loop-i : goal.invariant-loop-i
invariant-loop-i l = IsDoneTo l.i (summed l.fn.dst l.fn.src) l.fn.dst l.dst
