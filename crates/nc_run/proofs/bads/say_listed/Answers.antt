use Rattle.std.proofs.Common.{map}
use Rattle.std.specs.List.{concat}
use Rattle.nc_run.specs.Telling.{bad_text, next_bad}
use Rattle.nc_run.proofs.TellLaws.{sent_then}
use Rattle.nc_run.proofs.bads.say_listed.Goals as goal

pub returns : goal.returns
returns g c = record {
  says = sent_then g.K.Sink (bad_text c.args.bad.now) (concat (map next_bad c.args.others.now)) c.in_ok-say_bad.ensures.says c.say_others.ensures.says;
}
