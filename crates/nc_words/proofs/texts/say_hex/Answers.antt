use Rattle.std.proofs.Common.{codes}
use Rattle.hex.specs.Hex.{encode_lower}
use Rattle.nc_words.proofs.SendLaws.{sends_more}
use Rattle.nc_words.proofs.texts.say_hex.Goals as goal

pub returns : goal.returns
returns g c = record {
  says = sends_more g.K.Sink (encode_lower c.args.bytes.now) (codes "\n") c.args.out.now c.send_digits.new.out c.send.new.out
      c.in_ok-send_digits.field-0 c.send.result c.in_ok-send_digits.ensures.sends c.send.ensures.sends;
}
