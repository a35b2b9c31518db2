use Rattle.std.proofs.Common.{◌≡◌, map}
use Rattle.nc_cloud.specs.Fleet.{asked}
use Rattle.nc_cloud.specs.Rounds.{row}
use Rattle.nc_download.specs.Chunks.{chunk_ask}
use Rattle.nc_scrub.proofs.asking.asks_of.Given as goal

abbrev pub invariant-loop-cloud : goal.invariant-loop-cloud
invariant-loop-cloud l = map asked l.asks.items ≡ row (chunk_ask l.width l.name l.live l.row) 0 l.cloud
