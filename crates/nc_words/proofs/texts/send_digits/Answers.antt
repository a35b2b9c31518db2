use Rattle.nc_words.proofs.DigitLaws.{digits_begin, digits_failed, digits_more, split_whole}
use Rattle.nc_words.proofs.texts.send_digits.Goals as goal

pub loop-rest-init : goal.loop-rest-init
loop-rest-init g c = digits_begin g.K.Sink c.args.out.now c.args.bytes.now

pub loop-rest-preserved : goal.loop-rest-preserved
loop-rest-preserved g c =
    digits_more g.K.Sink c.split_at.result.0.now c.split_at.result.1.now c.in_ok-send_piece.field-0 c.loop-rest.invariant
    (split_whole c.min.result c.loop-rest.rest.now c.split_at.ensures.front c.split_at.ensures.back) c.in_ok-send_piece.ensures.sends

pub returns-in_err-send_piece : goal.returns-in_err-send_piece
returns-in_err-send_piece g c = record {
  sends = digits_failed g.K.Sink c.split_at.result.0.now c.split_at.result.1.now c.loop-rest.invariant
      (split_whole c.min.result c.loop-rest.rest.now c.split_at.ensures.front c.split_at.ensures.back)
      c.from_residual.result c.from_residual.ensures.0 _ c.in_err-send_piece.ensures.sends;
}
