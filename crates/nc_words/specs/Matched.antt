-- What `clap` reads in the words of a run.
use Rattle.std.specs.Prelude.{◌≡◌, List, []}
use Rattle.clap.specs.Faults.{fault_of}
use Rattle.clap.specs.Kinds.{Kinds}
use Rattle.clap.specs.Simple.{matches_of}
use Rattle.clap.specs.Walk.{Row, Text}
use Rattle.nc_words.specs.CommandLine.{nccloud}

-- what the words give each option and each positional word, where they are taken
unfoldable pub matched : List Text → List Row
matched words = matches_of nccloud words

-- the kinds of error at the words; none where they are taken
unfoldable pub faults : List Text → Kinds
faults words = fault_of nccloud words

-- the words fit the declared command: each option is one of it and is given at most once, with a value, and there is a command's word
pub record IsTaken (words : List Text) : Type 0 where
  pub no_fault : faults words ≡ []
