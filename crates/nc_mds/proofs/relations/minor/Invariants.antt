use Rattle.std.proofs.Common.{◌≡◌, ℕ, ◌<◌, ◌≤◌, length, slice_index}
use Rattle.nc_matrix.specs.Cells.{row_of, entry}
use Rattle.nc_mds.specs.Relations.{four}
use Rattle.nc_mds.proofs.relations.minor.Given as goal

abbrev pub invariant-loop-j : goal.invariant-loop-j
invariant-loop-j l = record {
  long : length l.cells ≡ 16;
  done : (j k : ℕ) → j < l.j → entry l.cells j k ≡ slice_index (four (slice_index (row_of l.relations j)) l.a l.b) k;
  below : (j k : ℕ) → l.j ≤ j → entry l.cells j k ≡ 0;
}
