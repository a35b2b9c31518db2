use Rattle.std.proofs.Common.{length}
use Rattle.nc_mix.proofs.placing.+place_group.Given as goal

abbrev pub decreases-place_group : goal.decreases-place_group
decreases-place_group l = length l.sums.now
