use Rattle.std.proofs.Common.{◌≡◌, ◌<◌, ℕ, false, slice_index_or}
use Rattle.nc_cloud.specs.declared.fleet.Ask.{Ask}
use Rattle.nc_settle.specs.Judging.{is_starved}
use Rattle.nc_settle.proofs.asking.some_starved.Given as goal

abbrev pub invariant-loop-ask : goal.invariant-loop-ask
invariant-loop-ask l = (k : ℕ) (d : Ask) → k < l.ask-index → is_starved (slice_index_or l.asks k d).answer ≡ false
