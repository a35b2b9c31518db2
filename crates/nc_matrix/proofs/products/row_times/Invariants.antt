use Rattle.std.proofs.Common.{◌≡◌, ℕ, ◌<◌, ◌≤◌, length, slice_index}
use Rattle.nc_matrix.specs.Products.{product_entry}
use Rattle.nc_matrix.proofs.products.row_times.Given as goal

abbrev pub invariant-loop-k : goal.invariant-loop-k
invariant-loop-k l = record {
  long : length l.sums ≡ 16;
  done : (k : ℕ) → k < l.k → slice_index l.sums k ≡ product_entry l.n l.row l.b.cells k;
  ahead : (k : ℕ) → l.k ≤ k → slice_index l.sums k ≡ 0;
}
