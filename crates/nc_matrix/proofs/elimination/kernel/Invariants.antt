use Rattle.std.proofs.Common.{◌≡◌, ℕ, ◌<◌, ◌≤◌, length, slice_index}
use Rattle.nc_matrix.specs.Cells.{entry}
use Rattle.nc_matrix.proofs.elimination.kernel.Given as goal

abbrev pub invariant-loop-k : goal.invariant-loop-k
invariant-loop-k l = record {
  long : length l.v ≡ 16;
  read : (k : ℕ) → k < l.k → slice_index l.v k ≡ entry l.rows k l.c;
  ahead : (k : ℕ) → l.k ≤ k → slice_index l.v k ≡ 0;
}
