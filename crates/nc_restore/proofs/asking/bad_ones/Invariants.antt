use Rattle.std.proofs.Common.{◌≡◌, All, true}
use Rattle.nc_cloud.specs.Deciding.{IsSeen}
use Rattle.nc_settle.specs.MetaWrites.{named}
use Rattle.nc_fetch.specs.Founds.{AreLeft}
use Rattle.nc_restore.specs.Asking.{AreJudgedTo}
use Rattle.nc_restore.proofs.asking.bad_ones.Given as goal

abbrev pub invariant-loop-cloud : goal.invariant-loop-cloud
invariant-loop-cloud g l = AreJudgedTo l.width l.name l.live l.row (named l.on) l.cloud l.fn.asks.items l.bad × AreLeft l.width l.name l.live l.row (named l.on) l.cloud l.fn.asks.items l.asks.items × All (λ a. IsSeen a.answer ≡ true) l.asks.items
