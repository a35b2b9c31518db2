use Rattle.nc_fetch.specs.Seats.{seat_of}
use Rattle.nc_fetch.proofs.SeatLaws.{seated_more}
use Rattle.nc_fetch.proofs.seats.seated.Goals as goal

pub loop-ask-preserved : goal.loop-ask-preserved
loop-ask-preserved c =
    seated_more (seat_of c.args.width c.args.name.now c.args.live.now c.args.rows.now) c.loop-ask.yielded c.loop-ask.seats.items c.push.new.self.items c.in-Some.ask c.seat_for.result c.loop-ask.invariant c.seat_for.ensures.is
    c.seat_for.ensures.slots c.in_ok-push.ensures.items
