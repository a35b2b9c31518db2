use Rattle.std.proofs.Common.{◌≡◌, ◌+◌, ◌≤◌, drop}
use Rattle.nc_memory.specs.Rounds.{rounds_in}
use Rattle.nc_memory.proofs.rounds.count_rounds.Given as goal

abbrev pub invariant-loop-event : goal.invariant-loop-event
invariant-loop-event l = (rounds_in l.log ≡ l.count + rounds_in (drop l.event-index l.log)) × (l.count ≤ l.event-index)
