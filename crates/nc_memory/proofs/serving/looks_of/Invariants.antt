use Rattle.std.proofs.Common.{◌≡◌, take, map}
use Rattle.nc_memory.specs.Record.{look_of}
use Rattle.nc_memory.proofs.serving.looks_of.Given as goal

abbrev pub invariant-loop-ask : goal.invariant-loop-ask
invariant-loop-ask l = l.looks ≡ map look_of (take l.ask-index l.asks)
