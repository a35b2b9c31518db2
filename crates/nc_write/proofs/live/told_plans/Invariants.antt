use Rattle.std.proofs.Common.{◌<◌, ℕ}
use Rattle.nc_code.specs.Good.{plan_of}
use Rattle.nc_code.specs.Parts.{IsPlan}
use Rattle.nc_write.proofs.live.told_plans.Given as goal

abbrev pub invariant-loop-lost : goal.invariant-loop-lost
invariant-loop-lost l = (lost : ℕ) → lost < l.lost → IsPlan (plan_of l.witnesses lost)
