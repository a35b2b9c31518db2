use Rattle.std.proofs.Common.{ℕ, ◌<◌, slice_index}
use Rattle.nc_nextloss.specs.Firsts.{IsGoodTry}
use Rattle.nc_nextloss.proofs.witness.first_witness.Given as goal

abbrev pub invariant-loop-j : goal.invariant-loop-j
invariant-loop-j l = (k : ℕ) → k < l.j → IsGoodTry l.code l.lost (slice_index l.base) (slice_index l.tries) k → ⊥
