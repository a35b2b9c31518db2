use Rattle.std.proofs.Common.{◌≡◌, ℕ, ◌/◌, ◌%◌, ◌<◌, ◌≤◌, length}
use Rattle.nc_code.specs.Codes.{code_row}
use Rattle.nc_matrix.specs.Cells.{row_of, entry}
use Rattle.nc_mds.specs.Verdicts.{other_cloud}
use Rattle.nc_mds.proofs.pairs.without.Given as goal

abbrev pub invariant-loop-i : goal.invariant-loop-i
invariant-loop-i l = record {
  long : length l.cells ≡ 16;
  rows : (k : ℕ) → k < l.i → row_of l.cells k ≡ code_row l.code (other_cloud l.a l.b (k / 2)) (k % 2);
  below : (j k : ℕ) → l.i ≤ j → entry l.cells j k ≡ 0;
}
