use Rattle.std.proofs.Common.{length}
use Rattle.nc_words.proofs.DigitLaws.{DigitsSent}
use Rattle.nc_words.proofs.texts.send_digits.Given as goal

abbrev pub invariant-loop-rest : goal.invariant-loop-rest
invariant-loop-rest g l = DigitsSent g.K.Sink l.initial.out l.out l.bytes l.rest

abbrev pub decreases-loop-rest : goal.decreases-loop-rest
decreases-loop-rest g l = length l.rest
