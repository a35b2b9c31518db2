use Rattle.std.proofs.Common.{◌≢◌, ◌<◌, ℕ, slice_index_or}
use Rattle.nc_cloud.specs.declared.fleet.Ask.{Ask}
use Rattle.nc_settle.proofs.asking.judge_cloud.Given as goal

abbrev pub invariant-loop-ask : goal.invariant-loop-ask
invariant-loop-ask l = (k : ℕ) (d : Ask) → k < l.ask-index → (slice_index_or l.asks k d).cloud ≢ l.cloud
