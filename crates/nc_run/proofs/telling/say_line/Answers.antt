use Rattle.std.proofs.Common.{◌++◌, codes}
use Rattle.nc_run.specs.Telling.{after_text, line_text, status_text}
use Rattle.nc_run.proofs.TellLaws.{sent_then, stopped_at}
use Rattle.nc_run.proofs.telling.say_line.Goals as goal

pub returns-in_err-send : goal.returns-in_err-send
returns-in_err-send g c = record {
  says = stopped_at g.E.Sink (codes "nccloud: ") (line_text c.args.ending.now.line ++ (after_text c.args.ending.now.after ++ (status_text c.args.ending.now.status ++ codes "\n")))
      c.from_residual.result c.from_residual.ensures.0 c.in_err-send.ensures.sends;
}

pub returns-in_err-say_place : goal.returns-in_err-say_place
returns-in_err-say_place g c = record {
  says = sent_then g.E.Sink (codes "nccloud: ") (line_text c.args.ending.now.line ++ (after_text c.args.ending.now.after ++ (status_text c.args.ending.now.status ++ codes "\n")))
      c.in_ok-send.ensures.sends
      (stopped_at g.E.Sink (line_text c.args.ending.now.line) (after_text c.args.ending.now.after ++ (status_text c.args.ending.now.status ++ codes "\n"))
      c.from_residual-in_err-say_place.result c.from_residual-in_err-say_place.ensures.0 c.in_err-say_place.ensures.says);
}

pub returns-in_err-say_after : goal.returns-in_err-say_after
returns-in_err-say_after g c = record {
  says = sent_then g.E.Sink (codes "nccloud: ") (line_text c.args.ending.now.line ++ (after_text c.args.ending.now.after ++ (status_text c.args.ending.now.status ++ codes "\n")))
      c.in_ok-send.ensures.sends
      (sent_then g.E.Sink (line_text c.args.ending.now.line) (after_text c.args.ending.now.after ++ (status_text c.args.ending.now.status ++ codes "\n"))
      c.in_ok-say_place.ensures.says
      (stopped_at g.E.Sink (after_text c.args.ending.now.after) (status_text c.args.ending.now.status ++ codes "\n")
      c.from_residual-in_err-say_after.result c.from_residual-in_err-say_after.ensures.0 c.in_err-say_after.ensures.says));
}

pub returns-in_err-say_status : goal.returns-in_err-say_status
returns-in_err-say_status g c = record {
  says = sent_then g.E.Sink (codes "nccloud: ") (line_text c.args.ending.now.line ++ (after_text c.args.ending.now.after ++ (status_text c.args.ending.now.status ++ codes "\n")))
      c.in_ok-send.ensures.sends
      (sent_then g.E.Sink (line_text c.args.ending.now.line) (after_text c.args.ending.now.after ++ (status_text c.args.ending.now.status ++ codes "\n"))
      c.in_ok-say_place.ensures.says
      (sent_then g.E.Sink (after_text c.args.ending.now.after) (status_text c.args.ending.now.status ++ codes "\n") c.in_ok-say_after.ensures.says
      (stopped_at g.E.Sink (status_text c.args.ending.now.status) (codes "\n") c.from_residual-in_err-say_status.result c.from_residual-in_err-say_status.ensures.0 c.in_err-say_status.ensures.says)));
}

pub returns : goal.returns
returns g c = record {
  says = sent_then g.E.Sink (codes "nccloud: ") (line_text c.args.ending.now.line ++ (after_text c.args.ending.now.after ++ (status_text c.args.ending.now.status ++ codes "\n")))
      c.in_ok-send.ensures.sends
      (sent_then g.E.Sink (line_text c.args.ending.now.line) (after_text c.args.ending.now.after ++ (status_text c.args.ending.now.status ++ codes "\n"))
      c.in_ok-say_place.ensures.says
      (sent_then g.E.Sink (after_text c.args.ending.now.after) (status_text c.args.ending.now.status ++ codes "\n") c.in_ok-say_after.ensures.says
      (sent_then g.E.Sink (status_text c.args.ending.now.status) (codes "\n") c.in_ok-say_status.ensures.says c.send-2.ensures.sends)));
}
