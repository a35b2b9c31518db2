use Rattle.std.proofs.Common.{drop, map}
use Rattle.nc_fetch.specs.Seats.{seat_of, AllJudged}
use Rattle.nc_repair.specs.Giving.{GaveFirst}
use Rattle.nc_repair.proofs.giving.given.Given as goal

abbrev pub invariant-loop-k : goal.invariant-loop-k
invariant-loop-k g l =
    GaveFirst l.fn.width l.fn.name l.fn.live l.fn.plan l.fn.lost l.fn.asks.items l.k l.chunks.items × AllJudged (map (seat_of l.fn.width l.fn.name l.fn.live l.fn.plan.choice) (drop l.k l.fn.asks.items)) l.seats.items
