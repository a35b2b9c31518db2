use Rattle.std.proofs.Common.{◌≢◌, ◌<◌, ℕ, get_or}
use Rattle.nc_memory.specs.declared.store.Object.{Object}
use Rattle.nc_memory.proofs.store.place_of.Given as goal

abbrev pub invariant-loop-i : goal.invariant-loop-i
invariant-loop-i l = (k : ℕ) (d : Object) → k < l.i → (get_or l.objects k d).key ≢ l.key
