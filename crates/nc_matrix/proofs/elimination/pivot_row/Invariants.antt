use Rattle.std.proofs.Common.{◌≡◌, ℕ, ◌<◌, ◌≤◌}
use Rattle.nc_matrix.specs.Cells.{entry}
use Rattle.nc_matrix.proofs.elimination.pivot_row.Given as goal

abbrev pub invariant-loop-p : goal.invariant-loop-p
invariant-loop-p l = (i : ℕ) → l.c ≤ i → i < l.p → entry l.rows i l.c ≡ 0
