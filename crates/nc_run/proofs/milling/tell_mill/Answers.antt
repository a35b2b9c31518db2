use Rattle.nc_run.proofs.MillLaws.{counts_all, counts_some, told_all, told_some}
use Rattle.nc_run.proofs.milling.tell_mill.Goals as goal

pub returns-in-Ok-clause-told : goal.returns-in-Ok-clause-told
returns-in-Ok-clause-told g c = rw c.plain.ensures (told_all g.K.Sink c.in-Ok.ensures.says)

pub returns-in-Ok-clause-write : goal.returns-in-Ok-clause-write
returns-in-Ok-clause-write g c = rw c.plain.ensures (counts_all g.K.Sink c.in-Ok.ensures.says)

pub returns-in-Err-clause-told : goal.returns-in-Err-clause-told
returns-in-Err-clause-told g c = rw c.plain-in-Err.ensures (told_some g.K.Sink c.in-Err.ensures.says)

pub returns-in-Err-clause-write : goal.returns-in-Err-clause-write
returns-in-Err-clause-write g c = rw c.plain-in-Err.ensures (counts_some g.K.Sink c.in-Err.ensures.says)
