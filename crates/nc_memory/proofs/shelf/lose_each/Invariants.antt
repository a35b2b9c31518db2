use Rattle.std.proofs.Common.{◌≡◌, drop}
use Rattle.nc_memory.specs.Shelf.{lost_each, shelved}
use Rattle.nc_memory.proofs.shelf.lose_each.Given as goal

abbrev pub invariant-loop-key : goal.invariant-loop-key
invariant-loop-key l = lost_each l.damage l.cloud (drop l.key-index l.keys) (shelved l.shelf) ≡ lost_each l.damage l.cloud l.keys (shelved l.initial.shelf)
