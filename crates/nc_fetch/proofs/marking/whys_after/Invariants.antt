use Rattle.nc_fetch.specs.Whys.{AreMarked}
use Rattle.nc_fetch.proofs.marking.whys_after.Given as goal

abbrev pub invariant-loop-cloud : goal.invariant-loop-cloud
invariant-loop-cloud l = AreMarked l.zeros l.ones l.cloud l.whys l.table
