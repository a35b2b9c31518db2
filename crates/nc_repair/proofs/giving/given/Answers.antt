use Rattle.std.proofs.Common.{arith}
use Rattle.nc_repair.proofs.AskingLaws.{asks_ascend}
use Rattle.nc_repair.proofs.GivingLaws.{all_gave, judged_asked, none_seated, one_gave, one_stops, seat_left, seat_taken}
use Rattle.nc_repair.proofs.giving.given.Goals as goal

pub judge_all-requires-clause-clouds : goal.judge_all-requires-clause-clouds
judge_all-requires-clause-clouds g c κs within = (asks_ascend _ _ _ _ _ c.args.asks.items c.requires.asks).below

pub returns-in-Err-clause-stops : goal.returns-in-Err-clause-stops
returns-in-Err-clause-stops g c = none_seated _ _ _ _ _ c.args.asks.items (omega (arith, c.requires.lost.wide))

pub remove-seat-requires : goal.remove-seat-requires
remove-seat-requires g c =
    omega (arith, c.loop-k.seats.ok, seat_left c.args.width c.args.name.now c.args.live.now c.args.plan.now c.args.lost c.loop-k.k c.args.asks.items c.loop-k.seats.items c.requires.asks c.loop-k-test.true c.loop-k.invariant.1)

pub add_given-requires : goal.add_given-requires
add_given-requires g c =
    let front =
    seat_taken c.args.width c.args.name.now c.args.live.now c.args.plan.now c.args.lost c.loop-k.k c.args.asks.items c.loop-k.seats.items c.remove-seat.new.self.items c.remove-seat.result c.requires.asks c.loop-k-test.true
    c.loop-k.invariant.1 c.remove-seat.ensures.value c.remove-seat.ensures.items in
    judged_asked _ c.remove-seat.result front.0

pub loop-k-preserved : goal.loop-k-preserved
loop-k-preserved g c =
    let front =
    seat_taken c.args.width c.args.name.now c.args.live.now c.args.plan.now c.args.lost c.loop-k.k c.args.asks.items c.loop-k.seats.items c.remove-seat.new.self.items c.remove-seat.result c.requires.asks c.loop-k-test.true
    c.loop-k.invariant.1 c.remove-seat.ensures.value c.remove-seat.ensures.items in
    (one_gave _ _ _ _ _ c.loop-k.k c.args.asks.items c.remove-seat.result c.loop-k.chunks.items c.add_given.new.chunks.items c.requires.asks c.loop-k-test.true front.0 c.loop-k.invariant.0 c.in-Ok-add_given.ensures.gives, front.1)

pub returns-in-Err-add_given-clause-stops : goal.returns-in-Err-add_given-clause-stops
returns-in-Err-add_given-clause-stops g c =
    let front =
    seat_taken c.args.width c.args.name.now c.args.live.now c.args.plan.now c.args.lost c.loop-k.k c.args.asks.items c.loop-k.seats.items c.remove-seat.new.self.items c.remove-seat.result c.requires.asks c.loop-k-test.true
    c.loop-k.invariant.1 c.remove-seat.ensures.value c.remove-seat.ensures.items in
    one_stops _ _ _ _ _ c.loop-k.k c.args.asks.items c.remove-seat.result c.loop-k.chunks.items c.in-Err-add_given.fault c.requires.asks c.loop-k-test.true front.0 c.loop-k.invariant.0 c.in-Err-add_given.ensures.fault

pub returns-clause-gave : goal.returns-clause-gave
returns-clause-gave g c = all_gave _ _ _ _ _ c.loop-k.k c.args.asks.items _ c.requires.asks (omega (arith, c.requires.lost.wide)) (omega (arith, c.loop-k-test.false, c.loop-k.auto.k-end)) c.loop-k.invariant.0
