use Rattle.std.proofs.Common.{◌≡◌, arith}
use Rattle.nc_settle.specs.MetaWrites.{named}
use Rattle.nc_fetch.proofs.FoundLaws.{found_all, found_more, found_none}
use Rattle.nc_fetch.proofs.RoundLaws.{asks_ascend}
use Rattle.nc_fetch.proofs.SeatLaws.{rows_pair, seat_next, seats_all, some_seat}
use Rattle.nc_fetch.proofs.rows.judge_row.Goals as goal

pub judge_all-requires-clause-rows : goal.judge_all-requires-clause-rows
judge_all-requires-clause-rows g c κs alive = rows_pair c.args.row c.requires.row

pub judge_all-requires-clause-clouds : goal.judge_all-requires-clause-clouds
judge_all-requires-clause-clouds g c κs alive = (asks_ascend c.args.width c.args.name.now c.args.live.now c.args.row (named c.args.on.now) c.args.asks.items c.requires.asks).below

pub loop-cloud-init : goal.loop-cloud-init
loop-cloud-init g c = (
  found_none c.args.width c.args.name.now c.args.live.now c.args.row (named c.args.on.now) c.args.asks.items _ c.new-founds.ensures.items,
  seats_all c.args.width c.args.name.now c.args.live.now c.args.row (named c.args.on.now) c.args.asks.items _ c.requires.asks c.in_ok-seats.ensures,
)

pub next_found-requires-clause-some : goal.next_found-requires-clause-some
next_found-requires-clause-some g c within = some_seat c.args.width c.args.name.now c.args.live.now c.args.row (named c.args.on.now) c.loop-cloud.cloud c.args.asks.items c.loop-cloud.seats.items c.loop-cloud-test.true within c.loop-cloud.invariant.1

pub loop-cloud-preserved : goal.loop-cloud-preserved
loop-cloud-preserved g c =
    let next = seat_next c.args.width c.args.name.now c.args.live.now c.args.row (named c.args.on.now) c.loop-cloud.cloud c.args.asks.items _ _ c.in_ok-found.found c.loop-cloud-test.true c.requires.narrow c.loop-cloud.invariant.1 c.in_ok-found.ensures in
    (found_more c.args.width c.args.name.now c.args.live.now c.args.row (named c.args.on.now) c.loop-cloud.cloud c.args.asks.items _ _ _ c.loop-cloud.invariant.0 next.0 c.in_ok-push_found.ensures, next.1)

pub returns : goal.returns
returns g c =
    let all : c.loop-cloud.cloud ≡ c.args.width = omega (arith, c.loop-cloud-test.false, c.loop-cloud.auto.cloud-end) in
    found_all c.args.width c.args.name.now c.args.live.now c.args.row (named c.args.on.now) c.loop-cloud.cloud c.args.asks.items _ all c.loop-cloud.invariant.0
