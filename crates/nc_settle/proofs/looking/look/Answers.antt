use Rattle.std.proofs.lemmas.Result.{IfOk-weaker}
use Rattle.nc_settle.specs.Views.{Places}
use Rattle.nc_settle.proofs.Looks.{all_rose}
use Rattle.nc_settle.proofs.looking.look.Goals as goal

pub returns-clause-failed : goal.returns-clause-failed
returns-clause-failed g c = IfOk-weaker _ _ _ (λ (v : Places) others. all_rose _ _ _ v others) c.look_without.ensures.failed
