use Rattle.std.proofs.Common.{◌≡◌}
use Rattle.nc_cloud.specs.Seats.{clouds_in}
use Rattle.nc_cloud.proofs.fan.seated.Given as goal

abbrev pub invariant-loop-cloud : goal.invariant-loop-cloud
invariant-loop-cloud g l = clouds_in l.seats.items ≡ l.yielded
