use Rattle.nc_write.specs.Tidying.{AreErasures}
use Rattle.nc_write.proofs.erasing.doomed.Given as goal

abbrev pub invariant-loop-cloud : goal.invariant-loop-cloud
invariant-loop-cloud l = AreErasures l.name l.top l.part l.cloud l.erases.items
