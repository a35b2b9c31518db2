use Rattle.nc_search.specs.Starts.{IsStartPlan}
use Rattle.nc_search.proofs.PlanLists.{ArePlans}
use Rattle.nc_search.proofs.starting.good_start.Given as goal

abbrev pub invariant-loop-lost : goal.invariant-loop-lost
invariant-loop-lost l = ArePlans (IsStartPlan l.width l.block) l.plans l.lost
