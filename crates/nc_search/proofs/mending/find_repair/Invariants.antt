use Rattle.std.proofs.Common.{ℕ, ◌<◌}
use Rattle.std.specs.Option.{option_copied}
use Rattle.nc_search.specs.Searches.{IsGoodMend}
use Rattle.nc_search.proofs.mending.find_repair.Given as goal

abbrev pub invariant-loop-index : goal.invariant-loop-index
invariant-loop-index l = (i : ℕ) → i < l.index → IsGoodMend l.code (option_copied l.stored) l.lost l.key i → ⊥
