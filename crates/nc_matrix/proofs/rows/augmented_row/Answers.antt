use Rattle.std.proofs.Common.{arith, refl, ◌+◌}
use Rattle.nc_gf256.proofs.RowSums.{zeros_everywhere}
use Rattle.nc_matrix.proofs.RowLemmas.{front_bytes, set_bytes}
use Rattle.nc_matrix.proofs.rows.augmented_row.Goals as goal

pub loop-k-init : goal.loop-k-init
loop-k-init c = record {
  long = refl;
  done = λ i lt. absurd (omega arith);
  bytes = λ i lt. absurd (omega arith);
  ahead = λ i le. zeros_everywhere 32 i;
}

pub returns-clause-bytes : goal.returns-clause-bytes
returns-clause-bytes c =
    set_bytes c.loop-k.wide (c.args.n + c.args.i) 1 (omega arith) (omega arith)
    (front_bytes c.loop-k.wide c.args.n (λ i lt. c.loop-k.invariant.bytes i (omega arith)) (λ i le. c.loop-k.invariant.ahead i (omega arith)))
