use Rattle.std.proofs.Common.{◌≡◌, take}
use Rattle.std.specs.List.{concat}
use Rattle.nc_native.proofs.joining.join.Given as goal

abbrev pub invariant-loop-native : goal.invariant-loop-native
invariant-loop-native l = l.bytes.items ≡ take l.wanted (concat (take l.native-index l.native-items))
