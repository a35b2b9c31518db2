use Rattle.std.proofs.Common.{sym, subst}
use Rattle.nc_cloud.specs.declared.fleet.Answer.{Answer}
use Rattle.nc_settle.specs.declared.place.Place.TheVariants.{Broken}
use Rattle.nc_settle.specs.Judging.{Judges}
use Rattle.nc_settle.proofs.Judgements.{judged_long}
use Rattle.nc_settle.proofs.judging.judge.Goals as goal

pub returns-in-Long : goal.returns-in-Long
returns-in-Long c =
    subst (λ (a : Answer). Judges c.args.width c.args.name.now c.args.slot c.args.cloud a Broken) (sym c.in-Long.is)
    (judged_long c.args.width c.args.name.now c.args.cloud c.args.slot c.requires.wide c.requires.narrow c.told_name.ensures)
