use Rattle.std.proofs.Common.{IfOk, List, subst, ℕ}
use Rattle.nc_words.specs.Lines.{LineAsks}
use Rattle.nc_words.proofs.LineLaws.{line_short, no_text}
use Rattle.nc_words.proofs.lines.read_line.Goals as goal

pub returns-in-Ok-clause-short : goal.returns-in-Ok-clause-short
returns-in-Ok-clause-short c =
    let asks = subst (λ (text : List ℕ). IfOk c.read_text.result (λ read. LineAsks c.args.width text read.act read.bytes)) c.in-Ok.ensures.cases.0 c.read_text.ensures.line in
    line_short c.args.width c.args.line.now c.read_text.result asks

pub returns-in-Err-clause-fault : goal.returns-in-Err-clause-fault
returns-in-Err-clause-fault c = no_text c.args.width c.args.line.now c.in-Err.ensures.cases.0
