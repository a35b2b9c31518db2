use Rattle.std.proofs.Common.{◌≡◌, ℕ, ◌+◌, ◌<◌, length}
use Rattle.nc_matrix.specs.Cells.{entry}
use Rattle.nc_gf256.specs.Rows.{unit}
use Rattle.nc_matrix.proofs.elimination.augmented.Given as goal

abbrev pub invariant-loop-i : goal.invariant-loop-i
invariant-loop-i l = record {
  long : length l.rows ≡ 16;
  bytes : (i k : ℕ) → i < l.i → entry l.rows i k < 256;
  left : (i k : ℕ) → i < l.i → k < l.n → entry l.rows i k ≡ entry l.a.cells i k;
  right : (i k : ℕ) → i < l.i → k < l.n → entry l.rows i (l.n + k) ≡ unit i k;
}
