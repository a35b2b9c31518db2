use Rattle.nc_settle.proofs.Steps.{no_conflict, none_weaker}
use Rattle.nc_settle.proofs.view.View.conflict.Goals as goal

pub returns-in-Some-clause-none : goal.returns-in-Some-clause-none
returns-in-Some-clause-none c = none_weaker c.conflict_with.result (no_conflict c.args.self.now c.in-Some.top.cloud c.in-Some.top.meta.now c.in-Some.ensures.some) c.conflict_with.ensures.none

pub returns-in-None-clause-none : goal.returns-in-None-clause-none
returns-in-None-clause-none c = λ a k m top l o has same. absurd (c.in-None.ensures.none a m top.in_width top.has)
