use Rattle.std.proofs.Common.{map, take}
use Rattle.std.specs.List.{concat}
use Rattle.nc_words.proofs.SendLaws.{Sent}
use Rattle.nc_run.specs.Texts.{named_flaw_text}
use Rattle.nc_run.proofs.flaws.say_flaws.Given as goal

abbrev pub invariant-loop-flaw : goal.invariant-loop-flaw
invariant-loop-flaw g l = Sent g.K.Sink (concat (map named_flaw_text (take l.flaw-index l.flaws))) l.fn.out l.out
