use Rattle.std.proofs.Common.{◌≡◌, ◌∙◌, IfErr, IfOk, List, None, Some, subst, ℕ}
use Rattle.clap.proofs.WalkLemmas.{raw_values-rows}
use Rattle.clap.specs.Matches.{found_of}
use Rattle.clap.specs.Walk.{rows_of, texts}
use Rattle.std.specs.Prelude.{codes}
use Rattle.nc_words.specs.Words.{IsCommand, RefusesArguments}
use Rattle.nc_words.proofs.Arguments.{arguments_are}
use Rattle.nc_words.proofs.commands.read_command.Goals as goal

pub returns-in-Some-get_strs-clause-command : goal.returns-in-Some-get_strs-clause-command
returns-in-Some-get_strs-clause-command c =
    let found = found_of c.args.matches.now in
    let same = arguments_are (rows_of found) c.in-Some.word.now (Some (texts c.in-Some-get_strs.rest.now)) c.in-Some.ensures.some (c.in-Some-get_strs.ensures ∙ raw_values-rows found (codes "rest")) in
    subst (λ (words : List (List ℕ)). IfOk c.read_arguments.result (IsCommand c.args.width words)) same c.read_arguments.ensures.command

pub returns-in-Some-get_strs-clause-fault : goal.returns-in-Some-get_strs-clause-fault
returns-in-Some-get_strs-clause-fault c =
    let found = found_of c.args.matches.now in
    let same = arguments_are (rows_of found) c.in-Some.word.now (Some (texts c.in-Some-get_strs.rest.now)) c.in-Some.ensures.some (c.in-Some-get_strs.ensures ∙ raw_values-rows found (codes "rest")) in
    subst (λ (words : List (List ℕ)). IfErr c.read_arguments.result (RefusesArguments c.args.width words)) same c.read_arguments.ensures.fault

pub returns-in-None-clause-command : goal.returns-in-None-clause-command
returns-in-None-clause-command c =
    let found = found_of c.args.matches.now in
    let same = arguments_are (rows_of found) c.in-Some.word.now None c.in-Some.ensures.some (c.in-None.ensures ∙ raw_values-rows found (codes "rest")) in
    subst (λ (words : List (List ℕ)). IfOk c.read_arguments-in-None.result (IsCommand c.args.width words)) same c.read_arguments-in-None.ensures.command

pub returns-in-None-clause-fault : goal.returns-in-None-clause-fault
returns-in-None-clause-fault c =
    let found = found_of c.args.matches.now in
    let same = arguments_are (rows_of found) c.in-Some.word.now None c.in-Some.ensures.some (c.in-None.ensures ∙ raw_values-rows found (codes "rest")) in
    subst (λ (words : List (List ℕ)). IfErr c.read_arguments-in-None.result (RefusesArguments c.args.width words)) same c.read_arguments-in-None.ensures.fault
