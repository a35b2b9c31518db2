use Rattle.std.proofs.Common.{◌≡◌, take}
use Rattle.nc_memory.proofs.stops.cut_events.Given as goal

abbrev pub invariant-loop-i : goal.invariant-loop-i
invariant-loop-i l = l.events.items ≡ take l.i l.log
