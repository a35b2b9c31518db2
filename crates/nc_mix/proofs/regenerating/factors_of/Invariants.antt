use Rattle.std.proofs.Common.{◌≡◌, ℕ, ◌<◌, length, get_or}
use Rattle.nc_mix.specs.Regenerating.{factor_at}
use Rattle.nc_mix.proofs.regenerating.factors_of.Given as goal

abbrev pub invariant-loop-k : goal.invariant-loop-k
invariant-loop-k l = (length l.row ≡ 16) × ((k : ℕ) → k < l.k → get_or l.row k 0 ≡ factor_at l.plan l.lost l.r k)
