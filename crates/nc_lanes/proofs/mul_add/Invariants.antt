use Rattle.std.proofs.Common.{◌*◌}
use Rattle.nc_lanes.specs.Lanes.{IsDoneTo, plus_scaled}
use Rattle.nc_lanes.proofs.mul_add.Given as goal

abbrev pub invariant-loop-block : goal.invariant-loop-block
invariant-loop-block l = IsDoneTo (32 * l.block) (plus_scaled l.fn.c l.fn.dst l.fn.src) l.fn.dst l.dst

abbrev pub invariant-loop-i : goal.invariant-loop-i
invariant-loop-i l = IsDoneTo l.i (plus_scaled l.fn.c l.fn.dst l.fn.src) l.fn.dst l.dst
