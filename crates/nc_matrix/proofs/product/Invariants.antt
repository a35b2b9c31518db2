use Rattle.std.proofs.Common.{◌≡◌, ℕ, ◌<◌, ◌≤◌, length}
use Rattle.nc_matrix.specs.Cells.{row_of, entry}
use Rattle.nc_matrix.specs.Products.{product_entry}
use Rattle.nc_matrix.proofs.product.Given as goal

abbrev pub invariant-loop-i : goal.invariant-loop-i
invariant-loop-i l = record {
  long : length l.cells ≡ 16;
  done : (i k : ℕ) → i < l.i → k < l.a.size → entry l.cells i k ≡ product_entry l.a.size (row_of l.a.cells i) l.b.cells k;
  right : (i k : ℕ) → l.a.size ≤ k → entry l.cells i k ≡ 0;
  ahead : (i k : ℕ) → l.i ≤ i → entry l.cells i k ≡ 0;
}
