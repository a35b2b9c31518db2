use Rattle.std.proofs.Common.{None}
use Rattle.nc_memory.proofs.ShelfLaws.{updated}
use Rattle.nc_memory.proofs.shelf.clear_there.Goals as goal

pub returns : goal.returns
returns c = updated c.args.shelf.now c.remove-old.new.self c.args.site None c.remove-old.ensures.updates
