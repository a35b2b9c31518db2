use Rattle.nc_words.proofs.Spelling.{line_refuses, spelt_restore, spelt_restores}
use Rattle.nc_words.proofs.lines.read_restore.Goals as goal

pub returns-in-Some-clause-fault : goal.returns-in-Some-clause-fault
returns-in-Some-clause-fault c =
    line_refuses c.args.width _ _ c.read_plain.result
    (spelt_restores c.args.tail.now c.in-Some.first.now c.in-Some.second.now c.in-Some.ensures.some) c.read_plain.ensures.fault

pub returns-in-None-clause-fault : goal.returns-in-None-clause-fault
returns-in-None-clause-fault c =
    line_refuses c.args.width _ _ c.read_plain-in-None.result (spelt_restore c.args.tail.now c.in-None.ensures.none) c.read_plain-in-None.ensures.fault
