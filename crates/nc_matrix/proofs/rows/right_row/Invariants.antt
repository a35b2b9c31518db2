use Rattle.std.proofs.Common.{◌≡◌, ℕ, ◌+◌, ◌<◌, ◌≤◌, length, slice_index}
use Rattle.nc_matrix.proofs.rows.right_row.Given as goal

abbrev pub invariant-loop-k : goal.invariant-loop-k
invariant-loop-k l = record {
  long : length l.half ≡ 16;
  done : (i : ℕ) → i < l.k → slice_index l.half i ≡ slice_index l.row (l.n + i);
  bytes : (i : ℕ) → i < l.k → slice_index l.half i < 256;
  ahead : (i : ℕ) → l.k ≤ i → slice_index l.half i ≡ 0;
}
