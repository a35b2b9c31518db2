use Rattle.std.proofs.Common.{◌≡◌, ℕ, ◌<◌, length, get_or, slice_index}
use Rattle.nc_code.specs.Tries.{choice_at}
use Rattle.nc_nextloss.proofs.reading.choices.Given as goal

abbrev pub invariant-loop-t : goal.invariant-loop-t
invariant-loop-t l =
    (length l.choice ≡ 10) × ((k : ℕ) → k < l.t → get_or l.choice k 0 ≡ choice_at l.width l.lost (slice_index l.base) (λ _. l.first) k)
