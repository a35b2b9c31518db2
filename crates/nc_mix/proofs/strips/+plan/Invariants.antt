use Rattle.std.proofs.Common.{length}
use Rattle.nc_mix.proofs.strips.+plan.Given as goal

abbrev pub decreases-plan : goal.decreases-plan
decreases-plan l = length l.strips.now
