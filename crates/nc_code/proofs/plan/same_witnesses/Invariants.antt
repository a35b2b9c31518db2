use Rattle.std.proofs.Common.{◌≡◌, ◌<◌, ℕ}
use Rattle.nc_code.specs.Good.{plan_of}
use Rattle.nc_code.proofs.plan.same_witnesses.Given as goal

abbrev pub invariant-loop-lost : goal.invariant-loop-lost
invariant-loop-lost l = (k : ℕ) → k < l.lost → plan_of l.a k ≡ plan_of l.b k
