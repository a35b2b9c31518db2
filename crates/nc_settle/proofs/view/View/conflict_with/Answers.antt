use Rattle.std.proofs.Common.{arith}
use Rattle.nc_settle.specs.Decisions.{AgreesOn}
use Rattle.nc_settle.proofs.Steps.{each_more}
use Rattle.nc_settle.proofs.view.View.conflict_with.Goals as goal

pub loop-b-preserved : goal.loop-b-preserved
loop-b-preserved c = each_more (λ k. AgreesOn c.args.self.now k c.args.meta.now) _ c.loop-b.invariant (c.has_other.ensures.agrees c.if-has_other.false)

pub returns-clause-none : goal.returns-clause-none
returns-clause-none c = λ k l. c.loop-b.invariant k (omega arith)
