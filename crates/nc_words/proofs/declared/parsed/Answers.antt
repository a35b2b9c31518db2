use Rattle.std.proofs.Common.{◌≡◌, map, string_bytes}
use Rattle.std.proofs.lemmas.Result.{IfOk-weaker}
use Rattle.clap.specs.Matches.{found_of}
use Rattle.clap.specs.Simple.{HasMatchesOf, app_of}
use Rattle.clap.specs.Walk.{rows_of}
use Rattle.nc_words.specs.Matched.{matched}
use Rattle.nc_words.proofs.Parsed.{fails, rows}
use Rattle.nc_words.proofs.declared.parsed.Goals as goal

pub returns-clause-rows : goal.returns-clause-rows
returns-clause-rows c =
    let words = map string_bytes c.args.words.now in
    let command = c.in_ok-declared.field-0 in
    IfOk-weaker c.try_get_matches_from.result (HasMatchesOf (app_of command) words) (λ m. rows_of (found_of m) ≡ matched words)
    (λ m has. rows (app_of command) words m c.in_ok-declared.ensures has) c.try_get_matches_from.ensures.matches

pub returns-clause-taken : goal.returns-clause-taken
returns-clause-taken c =
    fails (app_of c.in_ok-declared.field-0) (map string_bytes c.args.words.now) c.try_get_matches_from.result c.in_ok-declared.ensures c.try_get_matches_from.ensures.kinds
