use Rattle.std.proofs.Common.{◌≡◌, ℕ, ◌<◌, ◌≤◌, length, bit_xor}
use Rattle.nc_gf256.specs.Field.{mul}
use Rattle.nc_matrix.specs.Cells.{entry}
use Rattle.nc_matrix.specs.Elimination.{clearing}
use Rattle.nc_matrix.proofs.elimination.cleared.Given as goal

abbrev pub invariant-loop-i : goal.invariant-loop-i
invariant-loop-i l = record {
  long : length l.clear ≡ 16;
  bytes : (i k : ℕ) → i < l.n → entry l.clear i k < 256;
  done : (i k : ℕ) → i < l.i → entry l.clear i k ≡ bit_xor (entry l.rows i k) (mul (clearing l.c l.rows i) (entry l.rows l.c k));
  ahead : (i k : ℕ) → l.i ≤ i → entry l.clear i k ≡ entry l.rows i k;
}
