use Rattle.std.proofs.Common.{ℕ, [], ◌<◌, get_or}
use Rattle.nc_code.specs.Parts.{IsRow}
use Rattle.nc_code.proofs.told.told_rows.Given as goal

abbrev pub invariant-loop-row : goal.invariant-loop-row
invariant-loop-row g l = (i : ℕ) → i < l.row-index → IsRow g.row.N (get_or l.rows i [])
