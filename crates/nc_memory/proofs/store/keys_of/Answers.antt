use Rattle.nc_memory.proofs.SortLaws.{objects_listed}
use Rattle.nc_memory.proofs.store.keys_of.Goals as goal

pub returns : goal.returns
returns c = objects_listed c.args.objects.now _ c.in_ok-keys_in.ensures c.sorted_keys.result c.sorted_keys.ensures.sorted c.sorted_keys.ensures.all c.sorted_keys.ensures.only
