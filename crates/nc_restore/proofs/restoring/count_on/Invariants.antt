use Rattle.std.proofs.Common.{◌≡◌}
use Rattle.nc_settle.specs.MetaWrites.{named}
use Rattle.nc_state.specs.Clouds.{count_of}
use Rattle.nc_restore.proofs.restoring.count_on.Given as goal

abbrev pub invariant-loop-cloud : goal.invariant-loop-cloud
invariant-loop-cloud l = l.count ≡ count_of l.cloud (named l.on)
