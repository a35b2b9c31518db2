use Rattle.std.proofs.Common.{ℕ, ◌<◌}
use Rattle.nc_code.specs.Good.{plan_of}
use Rattle.nc_nextloss.specs.GoodCodes.{IsPlanFor}
use Rattle.nc_nextloss.proofs.good.confirm.Given as goal

abbrev pub invariant-loop-lost : goal.invariant-loop-lost
invariant-loop-lost l = (j : ℕ) → j < l.lost → IsPlanFor l.code j (plan_of l.witnesses j)
