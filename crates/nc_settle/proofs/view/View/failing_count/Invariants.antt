use Rattle.std.proofs.Common.{◌≡◌, ◌≤◌}
use Rattle.nc_state.specs.Clouds.{count_of}
use Rattle.nc_settle.specs.Failing.{fails}
use Rattle.nc_settle.proofs.view.View.failing_count.Given as goal

abbrev pub invariant-loop-cloud : goal.invariant-loop-cloud
invariant-loop-cloud l = (l.count ≡ count_of l.cloud (fails l.self)) × (l.count ≤ l.cloud)
