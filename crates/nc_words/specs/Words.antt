-- What the words of a run mean.
use Rattle.std.specs.Prelude.{ℕ, ◌≡◌, ◌≢◌, ◌<◌, ◌^◌, Option, Some, None, List, [], ◌∷◌, IfSome, codes, unwrap_or}
use Rattle.clap.specs.Walk.{Row, all_of, first_of}
use Rattle.clap.specs.declared.error.kind.ErrorKind.{ErrorKind}
use Rattle.clap.specs.declared.error.kind.ErrorKind.TheVariants as kind
use Rattle.nc_name.specs.Names.{IsName, RefusesName}
use Rattle.nc_name.specs.declared.name.NameFault.{NameFault}
use Rattle.nc_words.specs.declared.act.Act.TheVariants as act
use Rattle.nc_words.specs.declared.act.Command.{Command}
use Rattle.nc_words.specs.declared.act.Command.TheVariants.{Act, Batch, Mill}
use Rattle.nc_words.specs.declared.act.Request.{Request}
use Rattle.nc_words.specs.declared.words.WordFault.{WordFault}
use Rattle.nc_words.specs.declared.words.WordFault.TheVariants.{Usage, Name, Memory}
use Rattle.nc_words.specs.Acts.{FitsWidth, subject}
use Rattle.nc_words.specs.Matched.{IsTaken, matched}
use Rattle.nc_words.specs.Numbers.{IsCloudNumber, IsNumber}
use Rattle.nc_words.specs.Options.{IsChosen}

-- ---- arguments: the command's word, and after it the words that belong to no option

abbrev pub joined : Option (List ℕ) → List (List ℕ) → List (List ℕ)
joined None rest = []
joined (Some word) rest = word ∷ rest

-- those that the rows give
abbrev pub arguments_in : List Row → List (List ℕ)
arguments_in rows = joined (first_of (codes "command") rows) (unwrap_or (all_of (codes "rest") rows) [])

-- those that the words give
abbrev pub arguments : List (List ℕ) → List (List ℕ)
arguments words = arguments_in (matched words)

-- ---- what arguments mean

-- the arguments ask for a repair of this cloud of n
pub record AsksRepair (n : ℕ) (words : List (List ℕ)) (cloud : ℕ) : Type 0 where
  pub text : List ℕ
  pub words_are : words ≡ codes "repair" ∷ text ∷ []
  pub number : IsCloudNumber n text cloud

-- the arguments ask for a restore of this one cloud of n
pub record AsksRestore (n : ℕ) (words : List (List ℕ)) (cloud : ℕ) : Type 0 where
  pub text : List ℕ
  pub words_are : words ≡ codes "restore" ∷ text ∷ []
  pub number : IsCloudNumber n text cloud

-- the arguments ask for a restore of these two clouds of n, which differ, whatever their numbers' texts
pub record AsksRestoreOfTwo (n : ℕ) (words : List (List ℕ)) (first second : ℕ) : Type 0 where
  pub text : List ℕ
  pub other : List ℕ
  pub words_are : words ≡ codes "restore" ∷ text ∷ other ∷ []
  pub number : IsCloudNumber n text first
  pub other_number : IsCloudNumber n other second
  pub differ : second ≢ first

-- the arguments ask for a mill of this number
pub record AsksMill (words : List (List ℕ)) (number : ℕ) : Type 0 where
  pub text : List ℕ
  pub words_are : words ≡ codes "mill" ∷ text ∷ []
  pub is_number : IsNumber text number
  pub fits : number < 2 ^ 64

-- the arguments ask n clouds for this, the rule on names aside
abbrev pub Means : ℕ → List (List ℕ) → Command → Type 0
Means n words (Act (act.Put name)) = words ≡ codes "put" ∷ name ∷ []
Means n words (Act (act.Get name)) = words ≡ codes "get" ∷ name ∷ []
Means n words (Act (act.Remove name)) = words ≡ codes "rm" ∷ name ∷ []
Means n words (Act (act.Stat name)) = words ≡ codes "stat" ∷ name ∷ []
Means n words (Act act.List) = words ≡ codes "ls" ∷ []
Means n words (Act (act.Repair cloud)) = AsksRepair n words cloud
Means n words (Act (act.Restore first None)) = AsksRestore n words first
Means n words (Act (act.Restore first (Some second))) = AsksRestoreOfTwo n words first second
Means n words (Act act.Scrub) = words ≡ codes "scrub" ∷ []
Means n words (Act act.Recover) = words ≡ codes "recover" ∷ []
Means n words Batch = words ≡ codes "batch" ∷ []
Means n words (Mill number) = AsksMill words number

-- the name that a command is about, where it is about one
abbrev pub target : Command → Option (List ℕ)
target (Act a) = subject a
target Batch = None
target (Mill number) = None

-- the clouds that a command makes whole are among n
abbrev pub FitsCommand : ℕ → Command → Type 0
FitsCommand n (Act a) = FitsWidth n a
FitsCommand n other = Unit {0}

-- the arguments are this command
pub record IsCommand (n : ℕ) (words : List (List ℕ)) (command : Command) : Type 0 where
  pub means : Means n words command
  pub name : IfSome (target command) IsName

-- the arguments are no command
pub record MeansNothing (n : ℕ) (words : List (List ℕ)) : Type 0 where
  pub none : (command : Command) → Means n words command → ⊥

-- the arguments are a command, but its name isn't one, for this cause
pub record NamesBadly (n : ℕ) (words : List (List ℕ)) (cause : NameFault) : Type 0 where
  pub command : Command
  pub means : Means n words command
  pub text : List ℕ
  pub names : target command ≡ Some text
  pub refuses : RefusesName text cause

-- why arguments ask for nothing that can be done
abbrev pub RefusesArguments : ℕ → List (List ℕ) → WordFault → Type 0
RefusesArguments n words Usage = MeansNothing n words
RefusesArguments n words (Name cause) = NamesBadly n words cause
RefusesArguments n words Memory = ⊥

-- ---- what words ask for

-- the words ask n clouds for this
pub record Asks (n : ℕ) (words : List (List ℕ)) (request : Request) : Type 0 where
  pub taken : IsTaken words
  pub setting : IsChosen words request.setting
  pub command : IsCommand n (arguments words) request.command

-- the words say this to n clouds, the rule on names aside
pub record AsksFor (n : ℕ) (words : List (List ℕ)) (request : Request) : Type 0 where
  pub taken : IsTaken words
  pub setting : IsChosen words request.setting
  pub means : Means n (arguments words) request.command

-- they ask for nothing
pub record AsksNothing (n : ℕ) (words : List (List ℕ)) : Type 0 where
  pub none : (request : Request) → AsksFor n words request → ⊥

-- they are a command with its options, but its name isn't one, for this cause
pub record HasBadName (n : ℕ) (words : List (List ℕ)) (cause : NameFault) : Type 0 where
  pub request : Request
  pub says : AsksFor n words request
  pub text : List ℕ
  pub names : target request.command ≡ Some text
  pub refuses : RefusesName text cause

-- why the words ask for nothing that can be done; memory may run out at any words
abbrev pub RefusesWords : ℕ → List (List ℕ) → WordFault → Type 0
RefusesWords n words Usage = AsksNothing n words
RefusesWords n words (Name cause) = HasBadName n words cause
RefusesWords n words Memory = Unit {0}

-- ---- what `clap` tells

-- what is told of an error of `clap`
abbrev pub told_as : ErrorKind → WordFault
told_as kind.OutOfMemory = Memory
told_as other = Usage

-- why the declared command doesn't take the words
abbrev pub Declines : List (List ℕ) → WordFault → Type 0
Declines words Usage = IsTaken words → ⊥
Declines words (Name cause) = ⊥
Declines words Memory = Unit {0}

-- ---- laws

-- Words say one thing.
abbrev pub WordsMeanOne : Type 0
WordsMeanOne = (n : ℕ) (words : List (List ℕ)) (one two : Request) → AsksFor n words one → AsksFor n words two → one ≡ two

-- A bad name has one cause.
abbrev pub BadNameHasOne : Type 0
BadNameHasOne = (n : ℕ) (words : List (List ℕ)) (one two : NameFault) → HasBadName n words one → HasBadName n words two → one ≡ two
