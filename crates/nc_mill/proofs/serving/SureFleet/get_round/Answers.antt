use Rattle.nc_mill.proofs.SureLaws.{gets_spare}
use Rattle.nc_mill.proofs.serving.SureFleet.get_round.Goals as goal

pub returns-clause-failed : goal.returns-clause-failed
returns-clause-failed c = λ k d l wrong. absurd (gets_spare _ _ _ _ c.args.self.now.sure c.get_round.ensures.serves k d l wrong)
