use Rattle.std.proofs.Common.{◌≡◌, ◌++◌, length, take}
use Rattle.nc_native.specs.Native.{natives_of, whole_count, lent}
use Rattle.nc_native.proofs.lending.lend_natives.Given as goal

abbrev pub invariant-loop-native : goal.invariant-loop-native
invariant-loop-native l = lent l.list.items ≡ take (whole_count (length l.bytes) l.width) (natives_of l.bytes l.width) ++ take l.native-index l.native-items
