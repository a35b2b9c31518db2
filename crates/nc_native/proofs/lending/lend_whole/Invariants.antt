use Rattle.std.proofs.Common.{◌≡◌, ◌*◌, drop, map}
use Rattle.std.specs.List.{range_with_len}
use Rattle.nc_native.specs.Native.{native, lent}
use Rattle.nc_native.proofs.lending.lend_whole.Given as goal

abbrev pub invariant-loop-i : goal.invariant-loop-i
invariant-loop-i l = (l.rest ≡ drop (l._i * l.size) l.bytes) × (lent l.list.items ≡ map (native l.bytes l.width) (range_with_len 0 l._i))
