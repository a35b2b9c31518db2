use Rattle.nc_cloud.proofs.SeatLaws.{Collecting}
use Rattle.nc_cloud.proofs.seats.collect_gets.Given as goal

abbrev pub invariant-loop-i : goal.invariant-loop-i
invariant-loop-i g l = Collecting l.initial.seats l.seats l.initial.asks l.asks l.i
