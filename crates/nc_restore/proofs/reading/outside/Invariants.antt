use Rattle.nc_settle.specs.MetaWrites.{named}
use Rattle.nc_restore.specs.Reading.{AreOutside}
use Rattle.nc_restore.proofs.reading.outside.Given as goal

abbrev pub invariant-loop-cloud : goal.invariant-loop-cloud
invariant-loop-cloud l = AreOutside (named l.on) l.whys l.cloud l.table
