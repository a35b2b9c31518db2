use Rattle.std.proofs.Common.{subst, sym, arith}
use Rattle.std.proofs.lemmas.Bool.{false≢true}
use Rattle.nc_code.specs.Parts.{PlanParts}
use Rattle.nc_nextloss.specs.GoodCodes.{IsPlanFor}
use Rattle.nc_nextloss.proofs.GoodLemmas.{plan_for, good_of, one_more}
use Rattle.nc_nextloss.proofs.good.confirm.Goals as goal

pub returns-then-not-is_plan_for-clause-none : goal.returns-then-not-is_plan_for-clause-none
returns-then-not-is_plan_for-clause-none c = λ _ good.
    false≢true (c.if-not-is_plan_for.ensures.1 (subst (λ (p : PlanParts). IsPlanFor c.args.code.now c.loop-lost.lost p) (sym c.plan.ensures) (plan_for c.args.code.now c.args.witnesses.now c.loop-lost.lost good)))

pub loop-lost-preserved : goal.loop-lost-preserved
loop-lost-preserved c =
    one_more c.args.code.now c.args.witnesses.now c.loop-lost.lost c.plan.result.now c.loop-lost.invariant c.plan.ensures (c.is_plan_for.ensures.0 c.if-not-is_plan_for.false)

pub invariant_of-result : goal.invariant_of-result
invariant_of-result c =
    good_of c.args.code.now c.args.witnesses.now c.loop-lost.lost c.width-width.ensures.kept c.told_count.ensures (omega arith) c.in-Mds.ensures.verdict c.loop-lost.invariant

pub returns-clause-good : goal.returns-clause-good
returns-clause-good c =
    good_of c.args.code.now c.args.witnesses.now c.loop-lost.lost c.width-width.ensures.kept c.told_count.ensures (omega arith) c.in-Mds.ensures.verdict c.loop-lost.invariant
