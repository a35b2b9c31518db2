use Rattle.nc_search.specs.Repairs.{IsNextPlan}
use Rattle.nc_search.proofs.PlanLists.{ArePlans}
use Rattle.nc_search.proofs.mending.good_repair.Given as goal

abbrev pub invariant-loop-next : goal.invariant-loop-next
invariant-loop-next l = ArePlans (IsNextPlan l.code l.lost l.plan l.block) l.plans l.next
