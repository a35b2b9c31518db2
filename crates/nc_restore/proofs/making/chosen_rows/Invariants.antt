use Rattle.nc_restore.specs.Restoring.{AreChosenTo, by_row}
use Rattle.nc_restore.proofs.making.chosen_rows.Given as goal

abbrev pub invariant-loop-cloud : goal.invariant-loop-cloud
invariant-loop-cloud l = AreChosenTo l.fn.chunks (by_row l.zeros l.ones) l.cloud l.first.items l.second.items l.rest.items
