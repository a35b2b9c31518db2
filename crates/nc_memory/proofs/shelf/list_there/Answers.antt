use Rattle.nc_memory.proofs.ShelfLaws.{shelf_listed}
use Rattle.nc_memory.proofs.shelf.list_there.Goals as goal

pub returns : goal.returns
returns c = shelf_listed c.args.shelf.now c.args.cloud _ c.in_ok-keys_there.ensures c.sorted_keys.result c.sorted_keys.ensures.sorted c.sorted_keys.ensures.all c.sorted_keys.ensures.only
