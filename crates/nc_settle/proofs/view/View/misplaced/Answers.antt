use Rattle.std.proofs.Common.{arith}
use Rattle.nc_settle.specs.Decisions.{HasMisplaced}
use Rattle.nc_settle.proofs.Steps.{each_more, least_misplaced}
use Rattle.nc_settle.proofs.view.View.misplaced.Goals as goal

pub returns-in-Some-clause-some : goal.returns-in-Some-clause-some
returns-in-Some-clause-some c = least_misplaced _ c.loop-cloud.cloud _ _ _ c.in-Some.ensures.cloud (omega arith) c.in-Some.ensures.some c.loop-cloud.invariant

pub loop-cloud-preserved : goal.loop-cloud-preserved
loop-cloud-preserved c = each_more (λ k. HasMisplaced c.args.self.now k → ⊥) _ c.loop-cloud.invariant c.in_default.ensures.none

pub returns-clause-none : goal.returns-clause-none
returns-clause-none c = λ k l. c.loop-cloud.invariant k (omega arith)
