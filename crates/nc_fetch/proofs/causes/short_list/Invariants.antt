use Rattle.std.proofs.Common.{◌≡◌}
use Rattle.nc_fetch.specs.Whys.{bads}
use Rattle.nc_fetch.proofs.causes.short_list.Given as goal

abbrev pub invariant-loop-cloud : goal.invariant-loop-cloud
invariant-loop-cloud l = l.list ≡ bads l.whys 0 l.cloud
