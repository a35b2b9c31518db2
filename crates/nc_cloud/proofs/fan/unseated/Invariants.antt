use Rattle.std.proofs.Common.{◌≡◌}
use Rattle.nc_cloud.specs.Seats.{clouds_in}
use Rattle.nc_cloud.proofs.fan.unseated.Given as goal

abbrev pub invariant-loop-seat : goal.invariant-loop-seat
invariant-loop-seat g l = l.clouds.items ≡ clouds_in l.yielded
