use Rattle.std.proofs.Common.{◌≡◌}
use Rattle.nc_memory.specs.Memory.{width_of}
use Rattle.nc_drive.proofs.tests.history.Given as goal

abbrev pub invariant-loop : goal.invariant-loop
invariant-loop g l = width_of l.fleet ≡ 4

abbrev pub invariant-loop-name : goal.invariant-loop-name
invariant-loop-name g l = width_of l.fleet ≡ 4
