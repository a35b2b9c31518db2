use Rattle.std.proofs.Common.{◌≡◌, ◌<◌, ℕ, slice_index_or, true}
use Rattle.nc_cloud.specs.declared.fleet.Ask.{Ask}
use Rattle.nc_cloud.specs.Deciding.{IsSeen}
use Rattle.nc_cloud.proofs.deciding.answered.Given as goal

abbrev pub invariant-loop-ask : goal.invariant-loop-ask
invariant-loop-ask l = (k : ℕ) (d : Ask) → k < l.ask-index → IsSeen (slice_index_or l.asks k d).answer ≡ true
