use Rattle.std.proofs.Common.{◌≡◌, length}
use Rattle.nc_settle.specs.MetaWrites.{named}
use Rattle.nc_fetch.specs.Whys.{AreMarkedWith}
use Rattle.nc_fetch.proofs.causes.marked_with.Given as goal

abbrev pub invariant-loop-cloud : goal.invariant-loop-cloud
invariant-loop-cloud l = (length l.whys ≡ 10) × AreMarkedWith l.why l.cloud (named l.on) l.whys
