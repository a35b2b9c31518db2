use Rattle.std.proofs.Common.{◌≡◌, ℕ, ◌+◌, ◌-◌, ◌/◌, ◌%◌, ◌<◌, length}
use Rattle.nc_gf256.specs.Rows.{unit}
use Rattle.nc_gf256.specs.Width.{native_count}
use Rattle.nc_code.specs.Codes.{code_row}
use Rattle.nc_matrix.specs.Cells.{entry}
use Rattle.nc_matrix.specs.Products.{product_entry}
use Rattle.nc_mds.proofs.relations.solved.Given as goal

abbrev pub invariant-loop-j : goal.invariant-loop-j
invariant-loop-j l = record {
  long : length l.relations ≡ 4;
  left : (j i : ℕ) → j < l.j → i < native_count l.code.width
      → entry l.relations j i ≡ product_entry (native_count l.code.width) (code_row l.code (l.code.width - 2 + j / 2) (j % 2)) l.inverse.cells i;
  right : (j i : ℕ) → j < l.j → i < 4 → entry l.relations j (native_count l.code.width + i) ≡ unit j i;
}
