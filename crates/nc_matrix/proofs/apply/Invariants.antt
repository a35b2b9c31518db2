use Rattle.std.proofs.Common.{◌≡◌, ℕ, ◌<◌, ◌≤◌, length, slice_index}
use Rattle.nc_gf256.specs.Rows.{dot}
use Rattle.nc_matrix.specs.Cells.{row_of}
use Rattle.nc_matrix.proofs.apply.Given as goal

abbrev pub invariant-loop-i : goal.invariant-loop-i
invariant-loop-i l = record {
  long : length l.image ≡ 16;
  done : (i : ℕ) → i < l.i → slice_index l.image i ≡ dot l.a.size (row_of l.a.cells i) l.v;
  ahead : (i : ℕ) → l.i ≤ i → slice_index l.image i ≡ 0;
}
