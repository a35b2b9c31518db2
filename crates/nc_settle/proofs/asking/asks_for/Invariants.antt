use Rattle.std.proofs.Common.{◌≡◌, map}
use Rattle.nc_cloud.specs.Fleet.{asked}
use Rattle.nc_cloud.specs.Rounds.{some_row}
use Rattle.nc_settle.specs.MetaWrites.{named}
use Rattle.nc_settle.specs.Rounds.{meta_ask_outside}
use Rattle.nc_settle.proofs.asking.asks_for.Given as goal

abbrev pub invariant-loop-cloud : goal.invariant-loop-cloud
invariant-loop-cloud l = map asked l.asks.items ≡ some_row (meta_ask_outside l.name l.slot (named l.skip)) 0 l.cloud
