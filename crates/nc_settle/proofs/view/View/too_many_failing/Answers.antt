use Rattle.std.proofs.Common.{arith}
use Rattle.nc_settle.proofs.Failures.{few_fail, too_many}
use Rattle.nc_settle.proofs.view.View.too_many_failing.Goals as goal

pub returns-clause-some : goal.returns-clause-some
returns-clause-some c = too_many _ c.failing.result (omega (arith, c.if-failing_count-le2.false, c.failing_count.ensures)) c.failing.ensures.some

pub returns-clause-none : goal.returns-clause-none
returns-clause-none c = few_fail _ c.failing.result c.failing.ensures.none
