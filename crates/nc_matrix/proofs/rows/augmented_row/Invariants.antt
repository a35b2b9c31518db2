use Rattle.std.proofs.Common.{◌≡◌, ℕ, ◌<◌, ◌≤◌, length, slice_index}
use Rattle.nc_matrix.proofs.rows.augmented_row.Given as goal

abbrev pub invariant-loop-k : goal.invariant-loop-k
invariant-loop-k l = record {
  long : length l.wide ≡ 32;
  done : (i : ℕ) → i < l.k → slice_index l.wide i ≡ slice_index l.row i;
  bytes : (i : ℕ) → i < l.k → slice_index l.wide i < 256;
  ahead : (i : ℕ) → l.k ≤ i → slice_index l.wide i ≡ 0;
}
