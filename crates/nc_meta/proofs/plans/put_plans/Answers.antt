use Rattle.std.proofs.Common.{arith, ◌≡◌, ◌++◌, ◌∙◌, ap}
use Rattle.nc_code.specs.Good.{plan_of}
use Rattle.nc_meta.specs.Parts.{each}
use Rattle.nc_meta.specs.Metas.{plan_bytes}
use Rattle.nc_meta.proofs.Each.{more}
use Rattle.nc_meta.proofs.plans.put_plans.Goals as goal

pub loop-lost-preserved : goal.loop-lost-preserved
loop-lost-preserved c =
    more _ (λ j. plan_bytes c.args.n j (plan_of c.args.witnesses.now j)) _ _ _ c.loop-lost.invariant
    (c.in_ok-put_plan.ensures ∙ ap (λ p. c.loop-lost.out.items ++ plan_bytes c.args.n c.loop-lost.lost p) c.plan.ensures)

pub returns : goal.returns
returns c =
    let end : c.loop-lost.lost ≡ c.args.n = omega arith in
    c.loop-lost.invariant ∙ ap (λ k. c.args.out.now.items ++ each k (λ j. plan_bytes c.args.n j (plan_of c.args.witnesses.now j))) end
