use Rattle.std.proofs.Common.{arith, refl, ◌<◌, length}
use Rattle.nc_memory.specs.Record.{starved_ask}
use Rattle.nc_cloud.proofs.Served.{map_set}
use Rattle.nc_memory.proofs.serving.starve_asks.Goals as goal

pub loop-ask-preserved : goal.loop-ask-preserved
loop-ask-preserved c =
    let l : c.loop-ask.ask-index < length c.args.asks.now = omega arith in
    map_set c.args.asks.now c.loop-ask.asks c.loop-ask.ask-index c.ask-item.result _ l starved_ask c.loop-ask.invariant refl
