-- Words without options, and words after `--`.
use Rattle.std.specs.Prelude.{ℕ, ◌≡◌, ◌<◌, ◌^◌, Bool, true, not, is_some, List, ◌∷◌, codes, length}
use Rattle.std.specs.List.{list_all}
use Rattle.clap.specs.Lexer.{strip_byte}
use Rattle.nc_words.specs.Matched.{IsTaken}
use Rattle.nc_words.specs.Options.{IsChosen}
use Rattle.nc_words.specs.Settings.{standard}
use Rattle.nc_words.specs.Words.{arguments}

-- the word doesn't begin with `-`
abbrev pub is_plain : List ℕ → Bool
is_plain word = not (is_some (strip_byte 45 word))

-- the words are taken, these are their arguments, and nothing is chosen
pub record MeanArguments (words given : List (List ℕ)) : Type 0 where
  pub taken : IsTaken words
  pub arguments_are : arguments words ≡ given
  pub setting : IsChosen words standard

-- Words of which none begins with `-` are their own arguments.
abbrev pub PlainMeanThemselves : Type 0
PlainMeanThemselves = (command : List ℕ) (rest : List (List ℕ)) → is_plain command ≡ true → list_all is_plain rest ≡ true
    → length rest < 2 ^ 64 → MeanArguments (command ∷ rest) (command ∷ rest)

-- After `--` each word is an argument.
abbrev pub DashesMeanThemselves : Type 0
DashesMeanThemselves = (command : List ℕ) (rest : List (List ℕ)) → is_plain command ≡ true → length rest < 2 ^ 64
    → MeanArguments (command ∷ codes "--" ∷ rest) (command ∷ rest)
