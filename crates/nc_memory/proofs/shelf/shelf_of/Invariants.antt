use Rattle.std.proofs.Common.{◌≡◌, take}
use Rattle.nc_cloud.specs.Contents.{nothing}
use Rattle.nc_memory.specs.Record.{contents_after}
use Rattle.nc_memory.specs.Shelf.{shelved}
use Rattle.nc_memory.proofs.shelf.shelf_of.Given as goal

abbrev pub invariant-loop-event : goal.invariant-loop-event
invariant-loop-event l = shelved l.shelf ≡ contents_after (take l.event-index l.log) nothing
