use Rattle.std.proofs.Common.{◌∙◌, ◌++◌, ℕ, List, ap, codes}
use Rattle.nc_words.proofs.LinePuts.{put_refuses}
use Rattle.nc_words.proofs.Spelling.{line_refuses, spelt_alone, spelt_by_two}
use Rattle.nc_words.proofs.lines.read_text.Goals as goal

pub returns-in_default-clause-fault : goal.returns-in_default-clause-fault
returns-in_default-clause-fault c =
    line_refuses c.args.width _ _ c.read_plain.result (spelt_alone c.args.text.now c.in_default.ensures.none) c.read_plain.ensures.fault

pub returns-in-put-clause-fault : goal.returns-in-put-clause-fault
returns-in-put-clause-fault c =
    let tail : List ℕ = c.in-Some.tail.now in
    put_refuses c.args.width c.args.text.now tail c.read_put.result
    (c.in-Some.ensures.some.text_is ∙ ap (λ (word : List ℕ). word ++ codes " " ++ tail) c.in-put.is) c.read_put.ensures.fault

pub returns-in_default-word-clause-fault : goal.returns-in_default-word-clause-fault
returns-in_default-word-clause-fault c =
    line_refuses c.args.width _ _ c.read_plain-in_default-word.result
    (spelt_by_two c.args.text.now c.in-Some.word.now c.in-Some.tail.now c.in-Some.ensures.some c.in_default-word.not-put c.in_default-word.not-restore)
    c.read_plain-in_default-word.ensures.fault
