use Rattle.std.proofs.Common.{◌≡◌, take}
use Rattle.nc_cloud.specs.Fleet.{erasures}
use Rattle.nc_memory.specs.Record.{steps_of}
use Rattle.nc_memory.proofs.serving.plan_erases.Given as goal

abbrev pub invariant-loop-i : goal.invariant-loop-i
invariant-loop-i l = l.steps ≡ steps_of l.refusals l.entries (erasures (take l.i l.erases))
