use Rattle.std.proofs.Common.{◌*◌}
use Rattle.nc_lanes.proofs.DotLemmas.{AreSums}
use Rattle.nc_lanes.proofs.dot_of_blocks.Given as goal

abbrev pub invariant-loop-block : goal.invariant-loop-block
invariant-loop-block l = AreSums (32 * l.block) l.a l.b l.sums
