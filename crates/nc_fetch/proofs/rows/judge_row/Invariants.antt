use Rattle.nc_settle.specs.MetaWrites.{named}
use Rattle.nc_fetch.specs.Founds.{AreFound}
use Rattle.nc_fetch.proofs.SeatLaws.{AreSeatsLeft}
use Rattle.nc_fetch.proofs.rows.judge_row.Given as goal

abbrev pub invariant-loop-cloud : goal.invariant-loop-cloud
invariant-loop-cloud g l =
    AreFound l.fn.width l.fn.name l.fn.live l.fn.row (named l.fn.on) l.cloud l.fn.asks.items l.founds.items × AreSeatsLeft l.fn.width l.fn.name l.fn.live l.fn.row (named l.fn.on) l.cloud l.fn.asks.items l.seats.items
