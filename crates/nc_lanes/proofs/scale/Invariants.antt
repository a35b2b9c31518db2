use Rattle.std.proofs.Common.{◌*◌}
use Rattle.nc_lanes.specs.Lanes.{IsDoneTo, scaled}
use Rattle.nc_lanes.proofs.scale.Given as goal

abbrev pub invariant-loop-block : goal.invariant-loop-block
invariant-loop-block l = IsDoneTo (32 * l.block) (scaled l.fn.c l.fn.dst) l.fn.dst l.dst

abbrev pub invariant-loop-i : goal.invariant-loop-i
invariant-loop-i l = IsDoneTo l.i (scaled l.fn.c l.fn.dst) l.fn.dst l.dst
