use Rattle.std.proofs.Common.{◌≡◌, ◌≢◌, vec_len}
use Rattle.nc_name.specs.declared.key.Key.{Key}
use Rattle.nc_memory.specs.Store.{stored}
use Rattle.nc_memory.proofs.store.remove.Given as goal

abbrev pub invariant-loop-i : goal.invariant-loop-i
invariant-loop-i l = (q : Key) → q ≢ l.key → stored l.objects.items q ≡ stored l.initial.objects.items q

abbrev pub decreases-loop-i : goal.decreases-loop-i
decreases-loop-i l = vec_len l.objects
