use Rattle.std.proofs.Common.{◌≡◌}
use Rattle.nc_gf256.specs.Rows.{dot}
use Rattle.nc_lanes.proofs.dot.Given as goal

abbrev pub invariant-loop-i : goal.invariant-loop-i
invariant-loop-i l = l.total ≡ dot l.i l.a l.b
