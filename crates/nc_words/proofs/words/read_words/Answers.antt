use Rattle.std.proofs.Common.{List, ℕ, map, string_bytes}
use Rattle.clap.specs.Matches.{found_of}
use Rattle.clap.specs.Walk.{Row, rows_of}
use Rattle.nc_words.proofs.Asking.{refused_arguments, unchosen}
use Rattle.nc_words.proofs.words.read_words.Goals as goal

pub returns-in_default-clause-fault : goal.returns-in_default-clause-fault
returns-in_default-clause-fault c =
    let words : List (List ℕ) = map string_bytes c.args.words.now in
    let rows : List Row = rows_of (found_of c.in-Ok.matches) in
    unchosen c.args.width words rows c.in-Ok.ensures.rows c.in_default.ensures.none

pub returns-clause-fault : goal.returns-clause-fault
returns-clause-fault c =
    let words : List (List ℕ) = map string_bytes c.args.words.now in
    let rows : List Row = rows_of (found_of c.in-Ok.matches) in
    refused_arguments c.args.width words rows c.in-Some.setting c.in-Err-read_command.fault c.in-Ok.ensures.rows c.in-Ok.ensures.taken
    c.in-Some.ensures.some c.in-Err-read_command.ensures.fault
