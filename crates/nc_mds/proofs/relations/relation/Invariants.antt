use Rattle.std.proofs.Common.{◌≡◌, ℕ, ◌<◌, ◌≤◌, length, slice_index}
use Rattle.nc_matrix.specs.Products.{product_entry}
use Rattle.nc_mds.proofs.relations.relation.Given as goal

abbrev pub invariant-loop-i : goal.invariant-loop-i
invariant-loop-i l = record {
  long : length l.factors ≡ 20;
  done : (i : ℕ) → i < l.i → slice_index l.factors i ≡ product_entry l.inverse.size l.row l.inverse.cells i;
  ahead : (i : ℕ) → l.i ≤ i → slice_index l.factors i ≡ 0;
}
