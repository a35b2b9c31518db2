use Rattle.std.proofs.Common.{arith, subst, sym}
use Rattle.nc_search.specs.Repairs.{IsNextPlan, IsRepairOf}
use Rattle.nc_search.proofs.PlanLists.{one_plan_more, all_plans}
use Rattle.nc_search.proofs.RepairProofs.{next_plan_is, repair_good, repair_is}
use Rattle.nc_search.proofs.mending.good_repair.Goals as goal

pub loop-next-preserved : goal.loop-next-preserved
loop-next-preserved c =
    one_plan_more _ c.loop-next.plans c.loop-next.next c.in-Some.found (omega (arith, c.width-width.ensures.kept.narrow)) c.loop-next.invariant
    (next_plan_is c.args.code.now c.args.lost c.args.plan.now c.args.block.now c.loop-next.next c.in-Some.found c.repaired-again.result c.turned_base-base.result
    c.repaired-again.ensures.code c.repaired-again.ensures.width c.turned_base-base.ensures.base c.in-Some.ensures.own c.in-Some.ensures.some)

pub new-requires : goal.new-requires
new-requires c =
    repair_good c.args.code.now c.args.lost c.args.plan.now c.args.block.now c.repaired-again.result (record { plans = c.loop-next.plans }) c.told_plan.ensures c.requires.bare
    c.repaired-again.ensures.code c.in-Mds.ensures.verdict
    (all_plans (IsNextPlan c.args.code.now c.args.lost c.args.plan.now c.args.block.now) c.loop-next.plans c.loop-next.next c.args.code.now.width (omega arith) (omega arith) c.loop-next.invariant)

pub returns-clause-some : goal.returns-clause-some
returns-clause-some c =
    subst (IsRepairOf c.args.code.now c.args.lost c.args.plan.now c.args.block.now) (sym c.new.ensures)
    (repair_is c.args.code.now c.args.lost c.args.plan.now c.args.block.now c.repaired-again.result (record { plans = c.loop-next.plans }) c.repaired-again.ensures.code c.in-Mds.ensures.verdict
    (all_plans (IsNextPlan c.args.code.now c.args.lost c.args.plan.now c.args.block.now) c.loop-next.plans c.loop-next.next c.args.code.now.width (omega arith) (omega arith) c.loop-next.invariant))
