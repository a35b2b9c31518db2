use Rattle.nc_run.proofs.TellLaws.{tells_line}
use Rattle.nc_run.proofs.telling.tell.Goals as goal

pub returns-in_default : goal.returns-in_default
returns-in_default g c =
    tells_line g.E.Sink c.args.ending.now c.args.err.now c.say_line.new.err c.args.ending.now.status c.in_default.not-Ok
    (record { result = c.say_line.result; sends = c.say_line.ensures.says })
