use Rattle.std.proofs.Common.{List, sym, subst, arith}
use Rattle.nc_fetch.specs.declared.seats.Seat.{Seat}
use Rattle.nc_fetch.specs.Seats.{AllJudged}
use Rattle.nc_fetch.proofs.FoundLaws.{written_back}
use Rattle.nc_fetch.proofs.seats.judged.Goals as goal

pub returns : goal.returns
returns g c =
    let all : AllJudged c.args.seats.items c.judge_seats.new.seats = subst (λ (old : List Seat). AllJudged old c.judge_seats.new.seats) c.deref_mut.ensures.value c.judge_seats.ensures in
    subst (AllJudged c.args.seats.items) (sym (written_back c.args.seats.len c.judge_seats.new.seats c.args.seats.items (omega (arith, c.args.seats.ok)) all.same_length)) all
