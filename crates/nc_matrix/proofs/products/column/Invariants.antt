use Rattle.std.proofs.Common.{◌≡◌, ℕ, ◌<◌, length, slice_index}
use Rattle.nc_matrix.specs.Cells.{entry}
use Rattle.nc_matrix.proofs.products.column.Given as goal

abbrev pub invariant-loop-i : goal.invariant-loop-i
invariant-loop-i l = record {
  long : length l.column ≡ 16;
  done : (i : ℕ) → i < l.i → slice_index l.column i ≡ entry l.b.cells i l.k;
}
