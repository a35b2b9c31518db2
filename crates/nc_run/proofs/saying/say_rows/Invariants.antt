use Rattle.std.proofs.Common.{map, take}
use Rattle.std.specs.List.{concat}
use Rattle.nc_words.proofs.SendLaws.{Sent}
use Rattle.nc_run.specs.Texts.{file_row_text}
use Rattle.nc_run.proofs.saying.say_rows.Given as goal

abbrev pub invariant-loop-row : goal.invariant-loop-row
invariant-loop-row g l = Sent g.K.Sink (concat (map file_row_text (take l.row-index l.rows))) l.fn.out l.out
