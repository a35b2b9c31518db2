-- The command line of the program, as one simple command of `clap`.
use Rattle.std.specs.Prelude.{List, ◌∷◌, [], Option, Some, true, codes}
use Rattle.clap.specs.Lexer.{usize_max}
use Rattle.clap.specs.Walk.{Rule, Text}
use Rattle.clap.specs.Simple.{App, new_app, new_rule, on_top, with_rule}

-- an option that is written `--name V` or `--name=V`, with the text that holds where it isn't given
abbrev pub option_of : Text → Text → Rule
option_of name text = record (new_rule name) { long = Some name; defaults = text ∷ [] }

-- `--seed V`: what codes are drawn with, 64 hexadecimal digits; 32 zero bytes where it isn't given
abbrev pub seed : Rule
seed = option_of (codes "seed")
    (codes "0000000000000000000000000000000000000000000000000000000000000000")

-- `--budget V`: how many candidates a search for a code looks at
abbrev pub budget : Rule
budget = option_of (codes "budget") (codes "64")

-- `--workers V`: how many pieces a file is mixed in at once
abbrev pub workers : Rule
workers = option_of (codes "workers") (codes "1")

-- the command's word: the first word that belongs to no option
abbrev pub command : Rule
command = record (new_rule (codes "command")) { required = true }

-- all further words that belong to no option
abbrev pub rest : Rule
rest = record (new_rule (codes "rest")) {
  range = Some (record { start_inclusive = 0; end_inclusive = usize_max });
}

-- the words don't begin with the program's name, and `-h` and `--help` are no options
abbrev pub bare : App
bare = on_top (λ s. record s { no_binary_name = true; disable_help_flag = true }) (new_app (codes "nccloud"))

-- the command with its options and its positional words, in this order
abbrev pub nccloud : App
nccloud = with_rule (with_rule (with_rule (with_rule (with_rule bare seed) budget) workers) command) rest
