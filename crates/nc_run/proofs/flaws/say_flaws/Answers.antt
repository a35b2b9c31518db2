use Rattle.std.proofs.Common.{ap}
use Rattle.nc_words.proofs.SendLaws.{all_parts, failed_part, next_part, sends_none}
use Rattle.nc_run.specs.Texts.{named_flaw_text}
use Rattle.nc_run.proofs.flaws.say_flaws.Goals as goal

pub loop-flaw-init : goal.loop-flaw-init
loop-flaw-init g l = sends_none g.K.Sink l.args.out.now tt

pub loop-flaw-preserved : goal.loop-flaw-preserved
loop-flaw-preserved g l =
    next_part g.K.Sink named_flaw_text l.args.flaws.now l.loop-flaw.flaw-index l.flaw-item.result (ap named_flaw_text l.flaw-item.is) l.loop-flaw-test.true l.loop-flaw.invariant l.in_ok-say_named.field-0 l.in_ok-say_named.ensures.says

pub returns-in_err-say_named : goal.returns-in_err-say_named
returns-in_err-say_named g c = record {
  says = failed_part g.K.Sink named_flaw_text c.args.flaws.now c.loop-flaw.flaw-index c.flaw-item.result (ap named_flaw_text c.flaw-item.is) c.loop-flaw-test.true c.loop-flaw.invariant c.from_residual.result c.from_residual.ensures.0 _ c.in_err-say_named.ensures.says;
}

pub returns : goal.returns
returns g c = record { says = all_parts g.K.Sink named_flaw_text c.args.flaws.now c.loop-flaw.flaw-index tt c.loop-flaw-test.false c.loop-flaw.invariant }
