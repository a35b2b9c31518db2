use Rattle.nc_meta.proofs.PlanParts.{ReadPlans}
use Rattle.nc_meta.proofs.plans.read_plans.Given as goal

abbrev pub invariant-loop-lost : goal.invariant-loop-lost
invariant-loop-lost l = ReadPlans l.n l.size l.lost l.bytes l.plans
