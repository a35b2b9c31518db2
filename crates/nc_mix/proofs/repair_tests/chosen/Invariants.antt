use Rattle.nc_native.specs.Native.{AllLong}
use Rattle.nc_mix.proofs.repair_tests.chosen.Given as goal

abbrev pub invariant-loop-cloud : goal.invariant-loop-cloud
invariant-loop-cloud l = AllLong l.size l.fetched.items
