use Rattle.std.proofs.Common.{◌≡◌, map, take}
use Rattle.nc_memory.proofs.store.keys_in.Given as goal

abbrev pub invariant-loop-object : goal.invariant-loop-object
invariant-loop-object l = l.keys.items ≡ map (λ o. o.key) (take l.object-index l.objects)
