use Rattle.std.proofs.Common.{◌≡◌, ℕ, ◌+◌, ◌<◌, ◌≤◌, length}
use Rattle.nc_matrix.specs.Cells.{entry}
use Rattle.nc_matrix.proofs.elimination.right_half.Given as goal

abbrev pub invariant-loop-i : goal.invariant-loop-i
invariant-loop-i l = record {
  long : length l.cells ≡ 16;
  bytes : (i k : ℕ) → entry l.cells i k < 256;
  done : (i k : ℕ) → i < l.i → k < l.n → entry l.cells i k ≡ entry l.rows i (l.n + k);
  right : (i k : ℕ) → l.n ≤ k → entry l.cells i k ≡ 0;
  ahead : (i k : ℕ) → l.i ≤ i → entry l.cells i k ≡ 0;
}
