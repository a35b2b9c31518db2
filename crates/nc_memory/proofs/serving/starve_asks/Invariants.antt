use Rattle.std.proofs.Common.{◌≡◌, ◌++◌, take, drop, map}
use Rattle.nc_memory.specs.Record.{starved_ask}
use Rattle.nc_memory.proofs.serving.starve_asks.Given as goal

abbrev pub invariant-loop-ask : goal.invariant-loop-ask
invariant-loop-ask l = l.asks ≡ map starved_ask (take l.ask-index l.initial.asks) ++ drop l.ask-index l.initial.asks
