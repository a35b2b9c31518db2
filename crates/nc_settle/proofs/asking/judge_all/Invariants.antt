use Rattle.nc_settle.specs.Rounds.{AreJudged}
use Rattle.nc_settle.proofs.asking.judge_all.Given as goal

abbrev pub invariant-loop-cloud : goal.invariant-loop-cloud
invariant-loop-cloud l = AreJudged l.width l.name l.slot l.cloud l.asks l.places.items
