use Rattle.std.proofs.Common.{decimal, ◌∙◌}
use Rattle.nc_run.specs.Telling.{why_text}
use Rattle.nc_run.proofs.TellLaws.{sent_then}
use Rattle.nc_run.proofs.bads.say_bad.Goals as goal

pub returns : goal.returns
returns g c = record {
  says = sent_then g.K.Sink (decimal c.args.bad.now.cloud) (why_text c.args.bad.now.why)
      (rw (c.as_bytes.ensures.value ∙ c.format.ensures.text) at c.in_ok-send.ensures.sends) c.say_why.ensures.says;
}
