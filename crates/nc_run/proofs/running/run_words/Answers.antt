use Rattle.std.proofs.Common.{◌≡◌, ap, rules}
use Rattle.nc_run.specs.Ending.{plain}
use Rattle.nc_run.specs.declared.status.Status.{Status}
use Rattle.nc_run.proofs.AnswerLaws.{answered_asked, answered_refused, shown_refused}
use Rattle.nc_run.proofs.running.run_words.Goals as goal

pub returns-in-Ok-clause-answered : goal.returns-in-Ok-clause-answered
returns-in-Ok-clause-answered g c =
    answered_asked g.F.Fleet g.S.Source g.K.Sink _ _ _ (search rules) c.in-Ok.request c.run_asked.result (search rules) c.run_asked.ensures.begun c.run_asked.ensures.early c.run_asked.ensures.read c.run_asked.ensures.write

pub returns-in-Err-clause-answered : goal.returns-in-Err-clause-answered
returns-in-Err-clause-answered g c =
    answered_refused g.F.Fleet g.S.Source g.K.Sink _ _ c.in-Err.fault c.plain-in-Err.result (search rules) (search rules) (search rules)

pub returns-in-Err-clause-shown : goal.returns-in-Err-clause-shown
returns-in-Err-clause-shown g c =
    shown_refused g.F.Fleet g.S.Source g.K.Sink g.W.Watch _ _ _ c.in-Err.fault _ (search rules)
