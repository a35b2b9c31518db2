use Rattle.std.proofs.Common.{arith}
use Rattle.nc_matrix.proofs.RowLemmas.{front_bytes}
use Rattle.nc_matrix.proofs.rows.right_row.Goals as goal

pub returns-clause-bytes : goal.returns-clause-bytes
returns-clause-bytes c =
    front_bytes c.loop-k.half c.args.n (λ i lt. c.loop-k.invariant.bytes i (omega arith)) (λ i le. c.loop-k.invariant.ahead i (omega arith))
