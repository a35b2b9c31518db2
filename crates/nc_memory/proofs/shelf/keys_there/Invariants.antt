use Rattle.std.proofs.Common.{◌≡◌, ◌++◌}
use Rattle.std.specs.BTreeMap.{keys}
use Rattle.nc_memory.specs.Shelf.{keys_at}
use Rattle.nc_memory.proofs.shelf.keys_there.Given as goal

abbrev pub invariant-loop-site : goal.invariant-loop-site
invariant-loop-site l = keys_at l.cloud (keys l.shelf) ≡ l.list.items ++ keys_at l.cloud l.site-iterator
