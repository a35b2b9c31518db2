use Rattle.std.proofs.Common.{rules}
use Rattle.nc_run.proofs.AnswerLaws.{never_early, read_whole}
use Rattle.nc_run.proofs.RunLaws.{mill_shown, ran, unread_shown}
use Rattle.nc_run.proofs.running.run_asked.Goals as goal

pub returns-in-Mill-clause-shown : goal.returns-in-Mill-clause-shown
returns-in-Mill-clause-shown g c =
    mill_shown g.F.Fleet g.S.Source g.K.Sink g.W.Watch c.args.request.now _ _ _ c.in-Mill.number c.run_mill.result c.in-Mill.is (search rules) (search rules) (search rules)

pub returns-in-Ok-clause-begun : goal.returns-in-Ok-clause-begun
returns-in-Ok-clause-begun g c = c.run_command.ensures.begun

pub returns-in-Ok-clause-early : goal.returns-in-Ok-clause-early
returns-in-Ok-clause-early g c = never_early _ c.run_command.result c.run_command.ensures.late

pub returns-in-Ok-clause-shown : goal.returns-in-Ok-clause-shown
returns-in-Ok-clause-shown g c =
    ran g.F.Fleet g.S.Source g.K.Sink g.W.Watch c.args.request.now _ _ _ _ c.run_command.result c.in-Ok.input c.bytes.result.now c.bytes.ensures c.in-Ok.ensures.takes c.run_command.ensures.shown

pub returns-in-Ok-clause-read : goal.returns-in-Ok-clause-read
returns-in-Ok-clause-read g c = read_whole _ _ _ _ c.run_command.result c.in-Ok.ensures.fails c.run_command.ensures.late

pub returns-in-Ok-clause-write : goal.returns-in-Ok-clause-write
returns-in-Ok-clause-write g c = c.run_command.ensures.write

pub returns-in-Err-Memory-clause-shown : goal.returns-in-Err-Memory-clause-shown
returns-in-Err-Memory-clause-shown g c = unread_shown g.F.Fleet g.S.Source g.K.Sink g.W.Watch _ _ _ _ _ (search rules)
