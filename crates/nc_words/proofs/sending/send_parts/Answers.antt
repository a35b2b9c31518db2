use Rattle.std.proofs.Common.{refl}
use Rattle.nc_words.proofs.SendLaws.{all_parts, failed_part, next_part, sends_none}
use Rattle.nc_words.proofs.sending.send_parts.Goals as goal

pub loop-part-init : goal.loop-part-init
loop-part-init g l = sends_none g.K.Sink l.args.out.now tt

pub loop-part-preserved : goal.loop-part-preserved
loop-part-preserved g l =
    next_part g.K.Sink (λ part. part.now) l.args.parts.now l.loop-part.part-index _ refl l.loop-part-test.true l.loop-part.invariant l.in_ok-send.field-0 l.in_ok-send.ensures.sends

pub returns-in_err-send : goal.returns-in_err-send
returns-in_err-send g c = record {
  sends = failed_part g.K.Sink (λ part. part.now) c.args.parts.now c.loop-part.part-index _ refl c.loop-part-test.true c.loop-part.invariant c.from_residual.result c.from_residual.ensures.0 _ c.in_err-send.ensures.sends;
}

pub returns : goal.returns
returns g c = record { sends = all_parts g.K.Sink (λ part. part.now) c.args.parts.now c.loop-part.part-index tt c.loop-part-test.false c.loop-part.invariant }
