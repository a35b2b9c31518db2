use Rattle.nc_nextloss.proofs.GoodLemmas.{no_plan_decides}
use Rattle.nc_nextloss.proofs.good.is_no_plan.Goals as goal

pub returns-then-eq : goal.returns-then-eq
returns-then-eq c =
    no_plan_decides c.plan.inside.choice c.plan.inside.coefs c.args.plan.now c.eq.result c.eq-then-eq.result c.plan.view_is c.if-eq.true c.eq.ensures c.eq-then-eq.ensures
