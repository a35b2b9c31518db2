use Rattle.nc_mill.proofs.SureLaws.{puts_spare}
use Rattle.nc_mill.proofs.serving.SureFleet.put_round.Goals as goal

pub returns-clause-failed : goal.returns-clause-failed
returns-clause-failed c = λ k d l wrong. absurd (puts_spare _ _ _ _ c.args.self.now.sure c.put_round.ensures.serves k d l wrong)
