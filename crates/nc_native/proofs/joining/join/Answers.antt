use Rattle.std.proofs.Common.{◌≡◌, ◌+◌, ◌-◌, ◌++◌, min, length, take, arith}
use Rattle.std.proofs.lemmas.Grind.{common_steps}
use Rattle.std.specs.List.{concat}
use Rattle.nc_native.proofs.Pieces.{join_more}
use Rattle.nc_native.proofs.joining.join.Goals as goal

pub loop-native-preserved : goal.loop-native-preserved
loop-native-preserved c =
    let step : c.loop-native.bytes.items ++ take (min (c.args.len - length c.loop-native.bytes.items) (length c.native-item.result)) c.native-item.result ≡ take c.args.len (concat (take (c.loop-native.native-index + 1) c.items-native-items.result.now)) =
    join_more c.args.len c.items-native-items.result.now c.loop-native.native-index c.native-item.result c.loop-native.bytes.items c.loop-native-test.true c.native-item.is c.loop-native.invariant in
    grind (arith, common_steps, step)
