use Rattle.std.proofs.Common.{arith}
use Rattle.nc_matrix.proofs.TableLemmas.{lift_sums, lift_none}
use Rattle.nc_matrix.proofs.elimination.lifted.Goals as goal

pub returns-then-p-c-clause-sums : goal.returns-then-p-c-clause-sums
returns-then-p-c-clause-sums c =
    lift_sums c.args.n c.args.rows.now c.args.c c.args.p c.plus_multiple.result (omega arith) c.if-p-c.true c.plus_multiple.ensures.sums

pub returns-else-p-c-clause-sums : goal.returns-else-p-c-clause-sums
returns-else-p-c-clause-sums c = lift_none c.args.n c.args.rows.now c.args.c c.args.p c.if-p-c.false
