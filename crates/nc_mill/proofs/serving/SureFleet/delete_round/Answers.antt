use Rattle.nc_mill.proofs.SureLaws.{deletes_spare}
use Rattle.nc_mill.proofs.serving.SureFleet.delete_round.Goals as goal

pub returns-clause-failed : goal.returns-clause-failed
returns-clause-failed c = λ k d l wrong. absurd (deletes_spare _ _ _ _ c.args.self.now.sure c.delete_round.ensures.serves k d l wrong)
