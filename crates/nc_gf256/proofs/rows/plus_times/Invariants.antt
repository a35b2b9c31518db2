use Rattle.std.proofs.Common.{◌≡◌, ℕ, ◌<◌, length, slice_index, bit_xor}
use Rattle.nc_gf256.specs.Field.{mul}
use Rattle.nc_gf256.proofs.rows.plus_times.Given as goal

abbrev pub invariant-loop-k : goal.invariant-loop-k
invariant-loop-k g l = record {
  long : length l.sum ≡ g.row.N;
  done : (i : ℕ) → i < l.k → slice_index l.sum i ≡ bit_xor (slice_index l.row i) (mul l.factor (slice_index l.other i));
}
