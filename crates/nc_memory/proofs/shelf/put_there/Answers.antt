use Rattle.std.proofs.Common.{Some}
use Rattle.nc_memory.proofs.ShelfLaws.{updated}
use Rattle.nc_memory.proofs.shelf.put_there.Goals as goal

pub returns-in-Ok : goal.returns-in-Ok
returns-in-Ok c = updated c.args.shelf.now c.insert.new.self c.args.site (Some c.args.bytes) c.in-Ok.ensures.updates
