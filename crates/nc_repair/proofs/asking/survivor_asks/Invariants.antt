use Rattle.std.proofs.Common.{◌≡◌, map}
use Rattle.nc_cloud.specs.Fleet.{asked}
use Rattle.nc_cloud.specs.Rounds.{row}
use Rattle.nc_repair.specs.Asking.{survivor_ask}
use Rattle.nc_repair.proofs.asking.survivor_asks.Given as goal

abbrev pub invariant-loop-k : goal.invariant-loop-k
invariant-loop-k l = map asked l.asks.items ≡ row (survivor_ask l.width l.name l.live l.plan l.lost) 0 l.k
