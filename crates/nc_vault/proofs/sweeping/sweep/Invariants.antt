use Rattle.nc_vault.proofs.SweepStates.{Sweeping}
use Rattle.nc_vault.proofs.sweeping.sweep.Given as goal

abbrev pub invariant-loop-done : goal.invariant-loop-done
invariant-loop-done g l = Sweeping g.F.Fleet l.fn.setting l.fn.act l.names.items l.done l.count l.fn.fleet l.fleet
