use Rattle.std.proofs.Common.{refl}
use Rattle.nc_words.proofs.SendLaws.{all_parts, failed_part, next_part, sends_none}
use Rattle.nc_run.specs.Telling.{next_bad}
use Rattle.nc_run.proofs.bads.say_others.Goals as goal

pub loop-bad-init : goal.loop-bad-init
loop-bad-init g l = sends_none g.K.Sink l.args.out.now tt

pub loop-bad-preserved : goal.loop-bad-preserved
loop-bad-preserved g l =
    next_part g.K.Sink next_bad l.args.others.now l.loop-bad.bad-index _ refl l.loop-bad-test.true
    l.loop-bad.invariant l.in_ok-say_next.field-0 l.in_ok-say_next.ensures.says

pub returns-in_err-say_next : goal.returns-in_err-say_next
returns-in_err-say_next g c = record {
  says = failed_part g.K.Sink next_bad c.args.others.now c.loop-bad.bad-index _ refl c.loop-bad-test.true
      c.loop-bad.invariant c.from_residual.result c.from_residual.ensures.0 _ c.in_err-say_next.ensures.says;
}

pub returns : goal.returns
returns g c = record {
  says = all_parts g.K.Sink next_bad c.args.others.now c.loop-bad.bad-index tt c.loop-bad-test.false c.loop-bad.invariant;
}
