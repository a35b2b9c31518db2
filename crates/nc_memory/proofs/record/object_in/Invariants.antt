use Rattle.std.proofs.Common.{◌≡◌, None, drop}
use Rattle.std.specs.Option.{option_map}
use Rattle.nc_memory.specs.Record.{value}
use Rattle.nc_memory.proofs.record.object_in.Given as goal

abbrev pub invariant-loop-event : goal.invariant-loop-event
invariant-loop-event l = value l.log l.cloud l.key None ≡ value (drop l.event-index l.log) l.cloud l.key (option_map (λ r. r.now) l.object)
