use Rattle.std.proofs.Common.{sym, ◌∙◌}
use Rattle.nc_words.proofs.Numerals.{not_digits, too_long}
use Rattle.nc_words.proofs.numbers.read_number.Goals as goal
use Rattle.nc_words.proofs.numbers.read_number.Goals.{then-text-gt20-via-then-text-gt20, then-text-gt20-via-else-text-gt20+then-not-is_digits}

pub returns-then-text-gt20-clause-none : goal.returns-then-text-gt20-clause-none
returns-then-text-gt20-clause-none c =
    let text = c.args.text.now in
    elim c.then-text-gt20.branch [
      | then-text-gt20-via-then-text-gt20 w ↦ too_long text w.if-text-gt20.true
      | then-text-gt20-via-else-text-gt20+then-not-is_digits w ↦ not_digits text (sym w.is_digits.ensures ∙ w.if-not-is_digits.true)
    ]
