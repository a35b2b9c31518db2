-- How a run ends.
use Rattle.std.specs.Prelude.{ℕ, ◌≡◌, ◌≤◌, Option, None}
use Rattle.nc_name.specs.Counts.{Rose}
use Rattle.nc_stream.specs.declared.input.InputFault.{InputFault}
use Rattle.nc_stream.specs.declared.input.InputFault.TheVariants as input
use Rattle.nc_vault.specs.declared.fault.Fault.TheVariants as fault
use Rattle.nc_vault.specs.declared.reply.Reply.{Reply}
use Rattle.nc_vault.specs.declared.reply.Reply.TheVariants as reply
use Rattle.nc_words.specs.declared.words.WordFault.{WordFault}
use Rattle.nc_words.specs.declared.words.WordFault.TheVariants as word
use Rattle.nc_run.specs.declared.ending.Ending.{Ending}
use Rattle.nc_run.specs.declared.status.Status.{Status}
use Rattle.nc_run.specs.declared.status.Status.TheVariants.{Ok, Width, Usage, Name, TooLong, ReadFault, Vault}

-- how a run ended, in a word that crates above can name
abbrev pub HowEnded : Type 0
HowEnded = Ending

-- the status of a run whose last act was answered so
abbrev pub status_of : Reply → Status
status_of (reply.Stopped cause after) = Vault cause
status_of other = Ok

-- with how many names an act was done that wasn't, where it goes through all of them
abbrev pub after_of : Reply → Option ℕ
after_of (reply.Stopped cause after) = after
after_of other = None

-- a run that ends so, with nothing to tell beside its status
abbrev pub plain : Status → Ending
plain status = record { status = status; line = None; after = None }

-- nothing is told beside the status
pub record IsPlain (e : Ending) : Type 0 where
  pub line : e.line ≡ None
  pub after : e.after ≡ None

-- the status of a run whose words ask for nothing that can be done, for this cause
abbrev pub refusal : WordFault → Status
refusal word.Usage = Usage
refusal (word.Name cause) = Name cause
refusal word.Memory = Vault fault.Memory

-- the status of a run whose input wasn't taken, for this cause
abbrev pub unread : InputFault → Status
unread input.TooLong = TooLong
unread input.Failed = ReadFault
unread input.Memory = Vault fault.Memory

-- a status by the words and the number of clouds alone
abbrev pub IsRefused : Status → Type 0
IsRefused (Width w) = Unit {0}
IsRefused Usage = Unit {0}
IsRefused (Name cause) = Unit {0}
IsRefused other = ⊥

-- one that comes before any call on the clouds
abbrev pub IsEarly : Status → Type 0
IsEarly (Width w) = Unit {0}
IsEarly Usage = Unit {0}
IsEarly (Name cause) = Unit {0}
IsEarly TooLong = Unit {0}
IsEarly ReadFault = Unit {0}
IsEarly other = ⊥

-- What a stream's count of failures says of a run that ended so: it hasn't fallen, the run ended with this fault only where it rose,
-- and, where counts are exact, it rose only there.
pub record CountsStream (fault : Status) (exact : Type 0) (before now : ℕ) (status : Status) : Type 0 where
  pub later : before ≤ now
  pub failed : status ≡ fault → Rose before now
  pub same : exact → (status ≡ fault → ⊥) → now ≡ before
