use Rattle.std.proofs.Common.{◌∙◌, ap, slice_index}
use Rattle.nc_code.specs.Parts.{PlanParts}
use Rattle.nc_code.specs.Tries.{plan_at, from}
use Rattle.nc_search.proofs.RepairProofs.{drawn_is, redrawn_is, stored_is}
use Rattle.nc_search.proofs.mending.repair_plan.Goals as goal

pub returns-in-None-clause-plan : goal.returns-in-None-clause-plan
returns-in-None-clause-plan c =
    rw c.in-None.is (drawn_is c.args.width c.args.lost c.args.index c.args.block.now c.drawn_plan.result c.drawn_plan.ensures.plan)

pub returns-then-index-eq0-clause-plan : goal.returns-then-index-eq0-clause-plan
returns-then-index-eq0-clause-plan c =
    rw c.in-Some.is (c.plan.view_is ∙ stored_is c.args.width c.args.lost c.args.index c.args.block.now c.in-Some.plan.now c.if-index-eq0.true)

pub returns-else-index-eq0-clause-plan : goal.returns-else-index-eq0-clause-plan
returns-else-index-eq0-clause-plan c =
    rw c.in-Some.is
    (redrawn_is c.args.width c.args.lost c.args.index c.args.block.now c.drawn_plan-else-index-eq0.result c.in-Some.plan.now c.if-index-eq0.false
    (c.drawn_plan-else-index-eq0.ensures.plan
    ∙ ap (λ (p : PlanParts). plan_at c.args.width c.args.lost (slice_index p.choice) (from 0 (slice_index c.args.block.now))) c.plan.view_is))
