use Rattle.std.proofs.Common.{ℕ, ◌<◌}
use Rattle.nc_search.specs.Starts.{start_block, IsGoodStart}
use Rattle.nc_search.proofs.starting.find_start.Given as goal

abbrev pub invariant-loop-index : goal.invariant-loop-index
invariant-loop-index l = (i : ℕ) → i < l.index → IsGoodStart l.width (start_block l.width l.key i) → ⊥
