use Rattle.std.proofs.Common.{◌≡◌, ◌++◌, take, drop}
use Rattle.nc_memory.specs.Record.{end_erase, ended_by}
use Rattle.nc_memory.proofs.serving.mark_erases.Given as goal

abbrev pub invariant-loop-i : goal.invariant-loop-i
invariant-loop-i l = l.erases ≡ ended_by end_erase l.refusals l.entries (take l.i l.initial.erases) ++ drop l.i l.initial.erases
