use Rattle.nc_run.proofs.RunLaws.{concludes}
use Rattle.nc_run.proofs.running.run.Goals as goal

pub returns-clause-concludes : goal.returns-clause-concludes
returns-clause-concludes g c =
    concludes g.F.Fleet g.S.Source g.K.Sink g.E.Sink _ _ _ _ _ _ _ _ c.in-Some.status c.in-Some.ensures.concludes
