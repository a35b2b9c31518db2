-- What the options of a run choose.
use Rattle.std.specs.Prelude.{ℕ, ◌≡◌, ◌≤◌, List, Option, Some, Ok, length, codes}
use Rattle.clap.specs.Walk.{Row, Text, first_of}
use Rattle.hex.specs.Hex.{decode_of}
use Rattle.nc_words.specs.declared.setting.Setting.{Setting}
use Rattle.nc_words.specs.Matched.{matched}
use Rattle.nc_words.specs.Numbers.{IsNumber}

-- exactly 64 hexadecimal digits, of either case, which are these bytes
pub record IsSeed (text seed : List ℕ) : Type 0 where
  pub long : length text ≡ 64
  pub digits : decode_of text ≡ Ok seed

-- a number from low to high
pub record IsInRange (low high : ℕ) (text : List ℕ) (value : ℕ) : Type 0 where
  pub number : IsNumber text value
  pub least : low ≤ value
  pub most : value ≤ high

-- the seed that the rows give
pub record GivesSeed (rows : List Row) (seed : List ℕ) : Type 0 where
  pub text : List ℕ
  pub given : first_of (codes "seed") rows ≡ Some text
  pub is_seed : IsSeed text seed

-- the number from low to high that the rows give an option
pub record GivesNumber (option : Text) (low high : ℕ) (rows : List Row) (value : ℕ) : Type 0 where
  pub text : List ℕ
  pub given : first_of option rows ≡ Some text
  pub in_range : IsInRange low high text value

-- what the rows choose for a run
pub record Chooses (rows : List Row) (setting : Setting) : Type 0 where
  pub seed : GivesSeed rows setting.seed
  pub budget : GivesNumber (codes "budget") 1 4096 rows setting.budget
  pub workers : GivesNumber (codes "workers") 1 16 rows setting.workers

-- no seed is given
pub record GivesNoSeed (rows : List Row) : Type 0 where
  pub none : (seed : List ℕ) → GivesSeed rows seed → ⊥

-- no such number is given
pub record GivesNoNumber (option : Text) (low high : ℕ) (rows : List Row) : Type 0 where
  pub none : (value : ℕ) → GivesNumber option low high rows value → ⊥

-- nothing can be chosen so
pub record ChoosesNothing (rows : List Row) : Type 0 where
  pub none : (setting : Setting) → Chooses rows setting → ⊥

-- the words choose this
abbrev pub IsChosen : List Text → Setting → Type 0
IsChosen words setting = Chooses (matched words) setting
