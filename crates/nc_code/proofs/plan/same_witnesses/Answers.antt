use Rattle.std.proofs.Common.{refl, arith}
use Rattle.nc_code.proofs.SameParts.{same_plans}
use Rattle.nc_code.proofs.plan.same_witnesses.Goals as goal

pub returns : goal.returns
returns c = (λ yes. same_plans c.args.a.now c.args.b.now c.told_count.ensures c.told_count-2.ensures (λ k l. c.loop-lost.invariant k (omega arith)), λ e. refl)
