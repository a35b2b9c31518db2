use Rattle.std.proofs.Common.{sym, ◌∙◌}
use Rattle.nc_run.proofs.causes.say_damaged.Goals as goal

pub returns : goal.returns
returns g c = record {
  says = rw (sym c.how_word.ensures) (rw (sym (c.as_bytes.ensures.value ∙ c.format.ensures.text))
      (rw (sym (c.as_bytes-2.ensures.value ∙ c.format-2.ensures.text)) c.send_parts.ensures.sends));
}
