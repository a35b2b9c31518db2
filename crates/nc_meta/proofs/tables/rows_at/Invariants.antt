use Rattle.std.proofs.Common.{◌≡◌, ◌+◌, ◌*◌, ◌<◌, ◌≤◌, ℕ, [], length, slice_index_or}
use Rattle.nc_bytes.specs.Bytes.{padded, part}
use Rattle.nc_meta.proofs.tables.rows_at.Given as goal

abbrev pub invariant-loop-i : goal.invariant-loop-i
invariant-loop-i g l = record {
  len : length l.rows ≡ 20;
  rows : (j : ℕ) → j < l.i → slice_index_or l.rows j [] ≡ padded g.row.N (part (l.at + j * l.size) l.size l.bytes);
  rest : (j : ℕ) → l.i ≤ j → j < 20 → slice_index_or l.rows j [] ≡ padded g.row.N [];
}
