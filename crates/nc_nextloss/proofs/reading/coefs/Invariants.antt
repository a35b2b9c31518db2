use Rattle.std.proofs.Common.{◌≡◌, ℕ, ◌<◌, length, get_or, slice_index}
use Rattle.nc_code.specs.Tries.{coef_at, from}
use Rattle.nc_nextloss.proofs.reading.coefs.Given as goal

abbrev pub invariant-loop-t : goal.invariant-loop-t
invariant-loop-t l =
    (length l.row ≡ 10) × ((k : ℕ) → k < l.t → get_or l.row k 0 ≡ coef_at l.width l.lost (from l.at (slice_index l.bytes)) l.r k)
