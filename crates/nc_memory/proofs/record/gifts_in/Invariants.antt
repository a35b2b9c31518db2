use Rattle.std.proofs.Common.{◌≡◌, ◌+◌, ◌<◌, ◌^◌, drop}
use Rattle.nc_memory.specs.Record.{counted, gifts}
use Rattle.nc_memory.proofs.record.gifts_in.Given as goal

abbrev pub invariant-loop-event : goal.invariant-loop-event
invariant-loop-event l =
    (counted (gifts l.log l.cloud) ≡ counted (l.count + gifts (drop l.event-index l.log) l.cloud))
    × (l.count < 2 ^ 64)
