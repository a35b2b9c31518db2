use Rattle.nc_write.specs.ByRow.{AreByRowTo}
use Rattle.nc_write.proofs.rows.by_row.Given as goal

abbrev pub invariant-loop-cloud : goal.invariant-loop-cloud
invariant-loop-cloud l = AreByRowTo l.fn.chunks l.cloud l.zeros.items l.ones.items l.rest.items
