use Rattle.std.proofs.Common.{map, take}
use Rattle.std.specs.List.{concat}
use Rattle.nc_words.proofs.SendLaws.{Sent}
use Rattle.nc_words.proofs.sending.send_parts.Given as goal

abbrev pub invariant-loop-part : goal.invariant-loop-part
invariant-loop-part g l = Sent g.K.Sink (concat (map (λ part. part.now) (take l.part-index l.parts))) l.fn.out l.out
