use Rattle.std.proofs.Common.{codes, sym}
use Rattle.nc_run.specs.Telling.{bads_text}
use Rattle.nc_run.proofs.TellLaws.{sent_then, stopped_at}
use Rattle.nc_run.proofs.bads.say_short.Goals as goal

pub returns-in_err-send : goal.returns-in_err-send
returns-in_err-send g c = record {
  says = stopped_at g.K.Sink (codes "too few clouds: ") (bads_text c.args.bads.now) c.from_residual.result c.from_residual.ensures.0 c.in_err-send.ensures.sends;
}

pub returns : goal.returns
returns g c = record {
  says = sent_then g.K.Sink (codes "too few clouds: ") (bads_text c.args.bads.now) c.in_ok-send.ensures.sends (rw (sym c.items.ensures) c.say_bads.ensures.says);
}
