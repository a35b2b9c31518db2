use Rattle.std.proofs.Common.{map, take}
use Rattle.std.specs.List.{concat}
use Rattle.nc_words.proofs.SendLaws.{Sent}
use Rattle.nc_run.specs.Telling.{next_bad}
use Rattle.nc_run.proofs.bads.say_others.Given as goal

abbrev pub invariant-loop-bad : goal.invariant-loop-bad
invariant-loop-bad g l = Sent g.K.Sink (concat (map next_bad (take l.bad-index l.others))) l.fn.out l.out
