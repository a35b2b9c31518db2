use Rattle.std.proofs.Common.{◌≡◌, take}
use Rattle.nc_memory.specs.Record.{numbered}
use Rattle.nc_memory.specs.Stops.{stopped_step}
use Rattle.nc_memory.proofs.stops.stopped_steps.Given as goal

abbrev pub invariant-loop-i : goal.invariant-loop-i
invariant-loop-i l = l.copies ≡ numbered (stopped_step l.fates) 0 (take l.i l.steps)
