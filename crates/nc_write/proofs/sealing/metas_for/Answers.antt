use Rattle.std.proofs.Common.{◌∙◌}
use Rattle.nc_settle.proofs.MetaJobs.{metas_on_all}
use Rattle.nc_write.proofs.sealing.metas_for.Goals as goal

pub returns : goal.returns
returns c = record { writes_are = c.in_ok-jobs.ensures.writes ∙ metas_on_all c.args.width c.args.name.now c.args.meta.now c.requires.narrow; whole = c.in_ok-jobs.ensures.whole }
