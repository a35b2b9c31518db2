use Rattle.std.proofs.Common.{◌∙◌}
use Rattle.nc_native.proofs.Whole.{with_tail}
use Rattle.nc_native.proofs.lending.lend_natives.Goals as goal

pub returns : goal.returns
returns c =
    c.loop-native.invariant
    ∙ with_tail c.args.bytes.now c.args.width c.loop-native.native-index c.items-native-items.result.now c.loop-native-test.false (c.items-native-items.ensures ∙ c.requires.tail)
