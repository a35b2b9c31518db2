use Rattle.std.proofs.Common.{subst}
use Rattle.nc_mill.specs.Mills.{RefusesMill}
use Rattle.nc_run.proofs.MillLaws.{mill_done, mill_forgot, mill_spent, told_begun, told_late}
use Rattle.nc_run.proofs.milling.run_mill.Goals as goal

pub returns-in-Ok-clause-begun : goal.returns-in-Ok-clause-begun
returns-in-Ok-clause-begun g c = told_begun g.K.Sink _ _ _ c.tell_mill.result.status c.tell_mill.ensures.told

pub returns-in-Ok-clause-late : goal.returns-in-Ok-clause-late
returns-in-Ok-clause-late g c = told_late g.K.Sink _ _ _ c.tell_mill.result.status c.tell_mill.ensures.told

pub returns-in-Ok-clause-runs : goal.returns-in-Ok-clause-runs
returns-in-Ok-clause-runs g c = mill_done g.K.Sink c.in-Ok.milled c.in-Ok.ensures.milled c.tell_mill.ensures.told c.tell_mill.ensures.plain

pub returns-in-Err-Spent-clause-runs : goal.returns-in-Err-Spent-clause-runs
returns-in-Err-Spent-clause-runs g c =
    rw c.plain.ensures (mill_spent g.K.Sink c.in-Err-Spent.tried (subst (RefusesMill c.args.width c.args.setting.now c.args.number) c.in-Err-Spent.field-0-is c.in-Err-Spent.ensures.refused))

pub returns-in-Err-Memory-clause-runs : goal.returns-in-Err-Memory-clause-runs
returns-in-Err-Memory-clause-runs g c = rw c.plain-in-Err-Memory.ensures (mill_forgot g.K.Sink)
