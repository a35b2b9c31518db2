use Rattle.std.proofs.Common.{arith}
use Rattle.nc_vault.proofs.BearingLaws.{few_of, least_of}
use Rattle.nc_vault.proofs.bearing.least_of_three.Goals as goal

pub returns-clause-some : goal.returns-clause-some
returns-clause-some c = least_of c.args.width c.args.failed.now c.first_marked.result (omega (arith, c.if-count-le2.false, c.count.ensures)) c.first_marked.ensures.some

pub returns-clause-none : goal.returns-clause-none
returns-clause-none c = few_of c.args.width c.args.failed.now c.first_marked.result c.first_marked.ensures.none
