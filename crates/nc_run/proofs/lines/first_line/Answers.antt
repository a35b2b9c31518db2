use Rattle.std.proofs.Common.{arith}
use Rattle.nc_run.proofs.LineLaws.{one_line, split_lines}
use Rattle.nc_run.proofs.lines.first_line.Goals as goal

pub split_at-requires : goal.split_at-requires
split_at-requires c = omega (arith, (split_lines c.args.text.now c.in-Some.at c.in-Some.ensures).0)

pub returns-in-Some-clause-lines : goal.returns-in-Some-clause-lines
returns-in-Some-clause-lines c =
    cc ((split_lines c.args.text.now c.in-Some.at c.in-Some.ensures).1, c.split_at.ensures.front, c.split_at.ensures.back, c.split_at-in-Some.ensures.back)

pub returns-in-None-clause-lines : goal.returns-in-None-clause-lines
returns-in-None-clause-lines c = one_line c.args.text.now c.requires.some c.in-None.ensures
