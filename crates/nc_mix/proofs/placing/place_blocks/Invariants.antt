use Rattle.std.proofs.Common.{◌≤◌, ◌-◌}
use Rattle.nc_mix.specs.Mixing.{lent}
use Rattle.nc_mix.specs.Placing.{AreBegun}
use Rattle.nc_mix.proofs.placing.place_blocks.Given as goal

abbrev pub decreases-loop-at : goal.decreases-loop-at
decreases-loop-at g l = l.fn.size - l.at

abbrev pub invariant-loop-at : goal.invariant-loop-at
invariant-loop-at g l =
    AreBegun l.fn.size l.at l.fn.rows (lent l.fn.sources) l.sums × (l.at ≤ l.fn.size)
