use Rattle.std.proofs.Common.{arith}
use Rattle.nc_gf256.proofs.RowSums.{sum_everywhere, sum_bytes}
use Rattle.nc_gf256.proofs.rows.plus_times.Goals as goal

pub returns-clause-bytes : goal.returns-clause-bytes
returns-clause-bytes g c =
    sum_bytes c.loop-k.sum c.args.row.now c.args.other.now c.args.factor (omega arith) c.told_bytes.ensures
    (sum_everywhere g.row.N c.loop-k.sum c.args.row.now c.args.other.now c.args.factor c.loop-k.invariant.long c.told-row c.told-other (λ i lt. c.loop-k.invariant.done i (omega arith)))

pub returns-clause-sums : goal.returns-clause-sums
returns-clause-sums g c =
    sum_everywhere g.row.N c.loop-k.sum c.args.row.now c.args.other.now c.args.factor c.loop-k.invariant.long c.told-row c.told-other (λ i lt. c.loop-k.invariant.done i (omega arith))
