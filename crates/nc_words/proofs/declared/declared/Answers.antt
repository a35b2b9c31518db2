use Rattle.std.proofs.Common.{◌∙◌, ap₂}
use Rattle.clap.specs.Simple.{with_rule}
use Rattle.nc_words.proofs.declared.declared.Goals as goal

pub returns : goal.returns
returns c =
    let one = c.in_ok-arg.ensures.shape c.seed_option.ensures.local ∙ ap₂ with_rule c.bare_command.ensures c.seed_option.ensures.rule in
    let two = c.in_ok-arg-2.ensures.shape c.budget_option.ensures.local ∙ ap₂ with_rule one c.budget_option.ensures.rule in
    let three = c.in_ok-arg-3.ensures.shape c.workers_option.ensures.local ∙ ap₂ with_rule two c.workers_option.ensures.rule in
    let four = c.in_ok-arg-4.ensures.shape c.command_word.ensures.local ∙ ap₂ with_rule three c.command_word.ensures.rule in
    c.in_ok-command.ensures.shape c.rest_words.ensures.local ∙ ap₂ with_rule four c.rest_words.ensures.rule
