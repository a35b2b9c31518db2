use Rattle.nc_settle.specs.Settling.{AreLacking}
use Rattle.nc_settle.proofs.settling.lacking.Given as goal

abbrev pub invariant-loop-cloud : goal.invariant-loop-cloud
invariant-loop-cloud l = AreLacking l.view l.meta l.cloud l.table
