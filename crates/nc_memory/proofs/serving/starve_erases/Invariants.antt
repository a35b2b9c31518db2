use Rattle.std.proofs.Common.{◌≡◌, ◌++◌, take, drop, map}
use Rattle.nc_cloud.specs.declared.fleet.Done.TheVariants.{Memory}
use Rattle.nc_memory.specs.Record.{end_erase}
use Rattle.nc_memory.proofs.serving.starve_erases.Given as goal

abbrev pub invariant-loop-erase : goal.invariant-loop-erase
invariant-loop-erase l = l.erases ≡ map (end_erase Memory) (take l.erase-index l.initial.erases) ++ drop l.erase-index l.initial.erases
