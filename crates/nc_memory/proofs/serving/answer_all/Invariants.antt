use Rattle.std.proofs.Common.{◌≡◌, ◌++◌, take, drop}
use Rattle.nc_memory.specs.Record.{answered_asks}
use Rattle.nc_memory.proofs.serving.answer_all.Given as goal

abbrev pub invariant-loop-i : goal.invariant-loop-i
invariant-loop-i l = l.asks ≡ answered_asks l.refusals l.entries l.log.events.items (take l.i l.initial.asks) ++ drop l.i l.initial.asks
