use Rattle.nc_settle.specs.Failing.{NamesFailing}
use Rattle.nc_settle.proofs.view.View.failed.Given as goal

abbrev pub invariant-loop-cloud : goal.invariant-loop-cloud
invariant-loop-cloud l = NamesFailing l.self l.cloud l.table
