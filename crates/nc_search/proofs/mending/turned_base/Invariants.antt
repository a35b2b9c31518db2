use Rattle.std.proofs.Common.{◌≡◌, ℕ, ◌<◌, length, get_or}
use Rattle.nc_search.specs.Repairs.{turned_choice}
use Rattle.nc_search.proofs.mending.turned_base.Given as goal

abbrev pub invariant-loop-t : goal.invariant-loop-t
invariant-loop-t l = (length l.base ≡ 10) × ((k : ℕ) → k < l.t → get_or l.base k 0 ≡ turned_choice l.lost l.plan k)
