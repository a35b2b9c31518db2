use Rattle.std.proofs.Common.{refl}
use Rattle.nc_fetch.proofs.FoundLaws.{gives_long}
use Rattle.nc_fetch.proofs.founds.judge_answer.Goals as goal

pub returns-in-Long-clause-found : goal.returns-in-Long-clause-found
returns-in-Long-clause-found g c = (refl, gives_long c.args.wanted.now c.args.answer c.in-Long.is)
