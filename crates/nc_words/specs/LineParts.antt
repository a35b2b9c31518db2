-- What the parts of a batch's line say, for the functions that read them.
use Rattle.std.specs.Prelude.{ℕ, ◌≡◌, ◌≢◌, ◌<◌, List, [], ◌++◌, Ok, Result, codes, length, slice_index}
use Rattle.nc_name.specs.Names.{IsName}
use Rattle.nc_words.specs.declared.act.Act.{Act}
use Rattle.nc_words.specs.declared.act.Act.TheVariants as act
use Rattle.nc_words.specs.declared.act.Command.TheVariants as command
use Rattle.nc_words.specs.declared.lines.LineFault.{LineFault}
use Rattle.nc_words.specs.declared.lines.LineFault.TheVariants.{Outside, Memory}
use Rattle.nc_words.specs.Lines.{IsData}
use Rattle.nc_words.specs.Words.{IsCommand}

-- ---- spaces

-- no space stands in the text
pub record HasNoSpace (text : List ℕ) : Type 0 where
  pub none : (i : ℕ) → i < length text → slice_index text i ≢ 32

-- the text is these two around its first space
pub record SplitsAtFirst (text front back : List ℕ) : Type 0 where
  pub text_is : text ≡ front ++ codes " " ++ back
  pub first : HasNoSpace front

-- the text is these two around its last space
pub record SplitsAtLast (text front back : List ℕ) : Type 0 where
  pub text_is : text ≡ front ++ codes " " ++ back
  pub last : HasNoSpace back

-- ---- what follows the word of a put

-- the text is no bytes
pub record IsNoData (text : List ℕ) : Type 0 where
  pub none : (bytes : List ℕ) → IsData text bytes → ⊥

-- why a text isn't read as bytes
abbrev pub RefusesData : List ℕ → LineFault → Type 0
RefusesData text Outside = IsNoData text
RefusesData text Memory = Unit {0}

-- what follows `put ` is a name, a space and a text of these bytes
pub record IsPut (tail : List ℕ) (a : Act) (bytes : List ℕ) : Type 0 where
  pub name : List ℕ
  pub text : List ℕ
  pub tail_is : tail ≡ name ++ codes " " ++ text
  pub act_is : a ≡ act.Put name
  pub is_data : IsData text bytes
  pub is_name : IsName name

-- it isn't
pub record IsNoPut (tail : List ℕ) : Type 0 where
  pub none : (a : Act) (bytes : List ℕ) → IsPut tail a bytes → ⊥

-- why it isn't read as one
abbrev pub RefusesPut : List ℕ → LineFault → Type 0
RefusesPut tail Outside = IsNoPut tail
RefusesPut tail Memory = Unit {0}

-- ---- words that a command line has too

-- the words ask n clouds for an act, and nothing is stored
pub record IsPlainAct (n : ℕ) (words : List (List ℕ)) (a : Act) (bytes : List ℕ) : Type 0 where
  pub command : IsCommand n words (command.Act a)
  pub no_bytes : bytes ≡ []

-- they ask for no act
pub record MeansNoAct (n : ℕ) (words : List (List ℕ)) : Type 0 where
  pub none : (a : Act) → IsCommand n words (command.Act a) → ⊥

-- why they aren't read as one
abbrev pub RefusesAct : ℕ → List (List ℕ) → LineFault → Type 0
RefusesAct n words Outside = MeansNoAct n words
RefusesAct n words Memory = Unit {0}
