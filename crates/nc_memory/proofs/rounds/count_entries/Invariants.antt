use Rattle.std.proofs.Common.{◌≡◌, ◌+◌, ◌<◌, ◌^◌, drop}
use Rattle.nc_memory.specs.Record.{counted}
use Rattle.nc_memory.specs.Rounds.{entries_served}
use Rattle.nc_memory.proofs.rounds.count_entries.Given as goal

abbrev pub invariant-loop-event : goal.invariant-loop-event
invariant-loop-event l =
    (counted (entries_served l.log) ≡ counted (l.count + entries_served (drop l.event-index l.log)))
    × (l.count < 2 ^ 64)
