use Rattle.std.proofs.Common.{◌≡◌, ℕ, ◌<◌, length, get_or}
use Rattle.nc_gf256.specs.Field.{total}
use Rattle.nc_code.specs.Codes.{term}
use Rattle.nc_code.proofs.repair.new_row.Given as goal

abbrev pub invariant-loop-t : goal.invariant-loop-t
invariant-loop-t l =
    (length l.row ≡ 16) × ((k : ℕ) → k < 16 → get_or l.row k 0 ≡ total l.t (term l.code l.lost l.plan l.r k))
