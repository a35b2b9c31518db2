use Rattle.std.proofs.Common.{◌∙◌}
use Rattle.clap.proofs.WalkLemmas.{first_value-rows}
use Rattle.clap.specs.Matches.{found_of}
use Rattle.nc_words.proofs.Chosen.{no_text, some_text}
use Rattle.nc_words.proofs.options.first_text.Goals as goal

pub returns-clause-some : goal.returns-clause-some
returns-clause-some c =
    let rows = first_value-rows (found_of c.args.matches.now) c.args.id.now in
    some_text c.get_str.result _ (c.get_str.ensures ∙ rows)

pub returns-clause-none : goal.returns-clause-none
returns-clause-none c =
    let rows = first_value-rows (found_of c.args.matches.now) c.args.id.now in
    no_text c.get_str.result _ (c.get_str.ensures ∙ rows)
