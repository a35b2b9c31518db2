-- The value of a name over a history: the bytes of its file, or that there is none.
use Rattle.std.specs.Prelude.{ℕ, ◌≡◌, ◌⊎◌, ◌++◌, true, Option, None, Some, List, [], ◌∷◌, Contains, if◌then◌else◌}
use Rattle.std.specs.Option.{option_map_or}
use Rattle.std.specs.Str.{bytes_eq}
use Rattle.nc_state.specs.Clouds.{Clouds}
use Rattle.nc_state.specs.Showing.{AreBearable}
use Rattle.nc_state.specs.Vaults.{Vault}
use Rattle.nc_words.specs.declared.act.Act.{Act}
use Rattle.nc_words.specs.declared.act.Act.TheVariants as act
use Rattle.nc_words.specs.Acts.{Task}
use Rattle.nc_vault.specs.declared.fault.Fault.{Fault}
use Rattle.nc_vault.specs.declared.fault.Fault.TheVariants as fault
use Rattle.nc_vault.specs.declared.reply.Reply.{Reply}
use Rattle.nc_vault.specs.Replies.{RepliesWith}
use Rattle.nc_history.specs.Histories.{Happening}
use Rattle.nc_history.specs.Histories.Happening.{Ran, Lost}

-- ---- values that acts give

-- a put gives its name the bytes, a removal none; no other value is given
abbrev pub new_value_by : Act → List ℕ → List ℕ → Option (Option (List ℕ))
new_value_by (act.Put own) bytes name = if bytes_eq own name then Some (Some bytes) else None
new_value_by (act.Remove own) bytes name = if bytes_eq own name then Some None else None
new_value_by other bytes name = None

-- the value that an act gives to a name, if it gives one
abbrev pub new_value : Task → List ℕ → Option (Option (List ℕ))
new_value task name = new_value_by task.act task.bytes name

-- none of these acts gives the name a value
abbrev pub NoneGives : List Task → List ℕ → Type 0
NoneGives [] name = Unit {0}
NoneGives (task ∷ tasks) name = (new_value task name ≡ None) × NoneGives tasks name

-- no act that was done gives it one
abbrev pub NoneGivesSince : List Happening → List ℕ → Type 0
NoneGivesSince [] name = Unit {0}
NoneGivesSince (Ran tasks next ∷ hs) name = NoneGives tasks name × NoneGivesSince hs name
NoneGivesSince (Lost c ∷ hs) name = NoneGivesSince hs name

-- these values, and the one that the act would give, which was begun and not done
abbrev pub with_begun : Option Task → List ℕ → List (Option (List ℕ)) → List (Option (List ℕ))
with_begun None name values = values
with_begun (Some task) name values =
    option_map_or (λ value. value ∷ values) (new_value task name) values

-- the values that acts would have given it that were begun and not done
abbrev pub unfinished : List Happening → List ℕ → List (Option (List ℕ))
unfinished [] name = []
unfinished (Ran tasks next ∷ hs) name = with_begun next name (unfinished hs name)
unfinished (Lost c ∷ hs) name = unfinished hs name

-- ---- the value that counts

-- In this history `task` is the last act that was done and gave the name a value.
pub record GaveLast (name : List ℕ) (hs : List Happening) : Type 0 where
  pub early : List Happening
  pub before : List Task
  pub task : Task
  pub rest : List Task
  pub next : Option Task
  pub later : List Happening
  pub are : hs ≡ early ++ Ran (before ++ task ∷ rest) next ∷ later
  pub value : Option (List ℕ)
  pub gives : new_value task name ≡ Some value
  pub none_since : NoneGivesSince (Ran rest next ∷ later) name

-- what happened since
abbrev pub since : {name : List ℕ} {hs : List Happening} → GaveLast name hs → List Happening
since gave = Ran gave.rest gave.next ∷ gave.later

-- that act's value, or that of an act since that was begun and not done
abbrev pub IsAllowed : {name : List ℕ} {hs : List Happening} → GaveLast name hs
    → Option (List ℕ) → Type 0
IsAllowed {name = name} gave shown =
    (shown ≡ gave.value) ⊎ Contains (unfinished (since gave) name) shown

-- ---- what a get gives

-- A get of the name on W was answered so; damaged and failing clouds were at most two together.
pub record GetIsAnswered (n : ℕ) (W : Vault) (name : List ℕ) (answer : Reply) : Type 0 where
  pub get : Task
  pub is_get : get.act ≡ act.Get name
  pub failing : Clouds
  pub bearable : AreBearable n W.damaged failing
  pub replies : RepliesWith n get W failing answer

-- while these clouds fail, a get may stop for this cause: no file, one of them, or no memory
abbrev pub MayStopGet : Clouds → Fault → Type 0
MayStopGet failing fault.NoFile = Unit {0}
MayStopGet failing (fault.Cloud c) = failing c ≡ true
MayStopGet failing fault.Memory = Unit {0}
MayStopGet failing other = ⊥
