use Rattle.std.proofs.Common.{◌≡◌, ◌++◌}
use Rattle.nc_code.specs.Good.{plan_of}
use Rattle.nc_meta.specs.Parts.{each}
use Rattle.nc_meta.specs.Metas.{plan_bytes}
use Rattle.nc_meta.proofs.plans.put_plans.Given as goal

abbrev pub invariant-loop-lost : goal.invariant-loop-lost
invariant-loop-lost l = l.out.items ≡ l.fn.out.items ++ each l.lost (λ j. plan_bytes l.n j (plan_of l.witnesses j))
