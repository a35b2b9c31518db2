use Rattle.std.proofs.Common.{◌≡◌, ◌<◌, ◌≤◌, length}
use Rattle.nc_fetch.specs.Whys.{free}
use Rattle.nc_fetch.proofs.trying.batch_end.Given as goal

abbrev pub invariant-loop-cloud : goal.invariant-loop-cloud
invariant-loop-cloud l = (l.count ≡ length (free l.whys l.at l.cloud)) × (l.count < l.wanted) × (l.at ≤ l.cloud)
