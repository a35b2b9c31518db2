-- What a drive from clouds without objects leaves, and what a get finds then.
use Rattle.std.specs.Prelude.{ℕ, ◌≡◌, false, Some, None, List, [], ◌∷◌, codes}
use Rattle.nc_cloud.specs.Contents.{nothing}
use Rattle.nc_state.specs.Clouds.{Clouds, no_cloud}
use Rattle.nc_state.specs.Showing.{AreBearable}
use Rattle.nc_state.specs.Vaults.{IsVault, Vault}
use Rattle.nc_words.specs.declared.act.Act.TheVariants as act
use Rattle.nc_words.specs.Acts.{Task}
use Rattle.nc_words.specs.Numbers.{IsNumber}
use Rattle.nc_words.specs.Words.{arguments}
use Rattle.nc_memory.specs.declared.memory.MemFleet.{MemFleet}
use Rattle.nc_memory.specs.Memory.{chunk_gets_of, contents_of, width_of}
use Rattle.nc_vault.specs.declared.fault.Fault.{Fault}
use Rattle.nc_vault.specs.declared.fault.Fault.TheVariants as fault
use Rattle.nc_vault.specs.declared.reply.Reply.TheVariants as reply
use Rattle.nc_vault.specs.Counting.{TookFrom, chunks_from, failing_in}
use Rattle.nc_vault.specs.Replies.{CountsFiles}
use Rattle.nc_run.specs.declared.status.Status.TheVariants as status
use Rattle.nc_run.specs.Sides.{IsWide}
use Rattle.nc_run.specs.Texts.{text_of}
use Rattle.nc_history.specs.Histories.{Happening, LosesFew, damaged_by, empty_vault}
use Rattle.nc_history.specs.Repairs.{DoesRepair, FilesAreGood, IsMadeWhole}
use Rattle.nc_history.specs.Values.{GaveLast, IsAllowed, MayStopGet, since, unfinished}
use Rattle.nc_drive.specs.declared.event.Event.{Event}
use Rattle.nc_drive.specs.declared.outcome.Outcome.{Outcome}
use Rattle.nc_drive.specs.Driving.{Driven}
use Rattle.nc_drive.specs.Fleets.{clouds}
use Rattle.nc_drive.specs.Marks.{HistoryStands, happenings}
use Rattle.nc_drive.specs.Outcomes.{RunBecame}

-- Events became this on clouds without objects, and no loss left more than two clouds damaged.
pub record DrivenFromNothing (events : List Event) (old new : MemFleet) (outcomes : List Outcome) : Type 0 where
  pub empty : contents_of old ≡ nothing
  pub wide : IsWide (width_of old)
  pub driven : Driven events old new outcomes
  pub few : LosesFew (width_of old) (happenings driven.marks) no_cloud

-- what happened
abbrev pub history_of : {events : List Event} {old new : MemFleet} {outcomes : List Outcome}
    → DrivenFromNothing events old new outcomes → List Happening
history_of d = happenings d.driven.marks

-- it is a history of a vault, and what the clouds hold at its end stands for it
abbrev pub NothingBegins : Type 0
NothingBegins = (events : List Event) (old new : MemFleet) (outcomes : List Outcome)
    (d : DrivenFromNothing events old new outcomes)
    → HistoryStands (width_of old) (history_of d) empty_vault (contents_of new)

-- the clouds that are damaged after it
abbrev pub damaged_in : List Happening → Clouds → Clouds
damaged_in [] D = D
damaged_in (h ∷ hs) D = damaged_in hs (damaged_by h D)

-- The run after it was a get of the name, with any options, and became this; the clouds that failed in it and the damaged ones are at
-- most two.
pub record GetAfter (events : List Event) (old mid new : MemFleet) (outcomes : List Outcome) (name : List ℕ) (o : Outcome) : Type 0 where
  pub drive : DrivenFromNothing events old mid outcomes
  pub words : List (List ℕ)
  pub asks : arguments words ≡ codes "get" ∷ name ∷ []
  pub given : List ℕ
  pub happening : Happening
  pub run : RunBecame words given mid new o happening
  pub bearable : AreBearable (width_of old) (damaged_in (history_of drive) no_cloud) (failing_in clouds (act.Get name) mid new)

-- Bytes that it prints are those of the last put of the name that was done, or of one since that was begun and not done.
abbrev pub LastDoneIsPrinted : Type 0
LastDoneIsPrinted = (events : List Event) (old mid new : MemFleet) (outcomes : List Outcome) (name : List ℕ) (o : Outcome)
    (a : GetAfter events old mid new outcomes name o) (gave : GaveLast name (history_of a.drive))
    → o.status ≡ status.Ok → IsAllowed gave (Some o.out)

-- It finds no file only where the last act on the name that was done is a removal, or one was begun since.
abbrev pub NoFileIsRemoved : Type 0
NoFileIsRemoved = (events : List Event) (old mid new : MemFleet) (outcomes : List Outcome) (name : List ℕ) (o : Outcome)
    (a : GetAfter events old mid new outcomes name o) (gave : GaveLast name (history_of a.drive))
    → o.status ≡ status.Vault fault.NoFile → IsAllowed gave None

-- It stops for no file, a cloud that fails, or want of memory.
abbrev pub FewCausesStop : Type 0
FewCausesStop = (events : List Event) (old mid new : MemFleet) (outcomes : List Outcome) (name : List ℕ) (o : Outcome) (cause : Fault)
    (a : GetAfter events old mid new outcomes name o)
    → o.status ≡ status.Vault cause → MayStopGet (failing_in clouds (act.Get name) mid new) cause

-- After a put of the name that was done, where no act since was begun that would give it another value, it prints the put's bytes.
abbrev pub PutIsPrinted : Type 0
PutIsPrinted = (events : List Event) (old mid new : MemFleet) (outcomes : List Outcome) (name : List ℕ) (o : Outcome)
    (a : GetAfter events old mid new outcomes name o) (gave : GaveLast name (history_of a.drive))
    → gave.task.act ≡ act.Put name → unfinished (since gave) name ≡ []
    → o.status ≡ status.Ok → o.out ≡ gave.task.bytes

-- ---- a repair

-- The run after it was a repair of the cloud whose number is this text, with any options, and became this.
pub record RepairAfter (events : List Event) (old mid new : MemFleet) (outcomes : List Outcome) (text : List ℕ) (cloud : ℕ)
    (o : Outcome) : Type 0 where
  pub drive : DrivenFromNothing events old mid outcomes
  pub is_number : IsNumber text cloud
  pub words : List (List ℕ)
  pub asks : arguments words ≡ codes "repair" ∷ text ∷ []
  pub given : List ℕ
  pub happening : Happening
  pub run : RunBecame words given mid new o happening

-- A repair of the cloud was done on the vault V, and printed how many files V has: of each, every other cloud gave one of its two
-- chunks, and the cloud itself none. What the clouds hold then stands for a vault in which the code of each file has a witness for
-- each next loss, and the cloud isn't damaged.
pub record Repaired (n cloud : ℕ) (V : Vault) (mid new : MemFleet) (out : List ℕ) : Type 0 where
  pub files : ℕ
  pub counts : CountsFiles n V files
  pub printed : out ≡ text_of false (reply.Repaired files)
  pub took : TookFrom n (chunk_gets_of mid) (chunk_gets_of new) (chunks_from (act.Repair cloud) files)
  pub task : Task
  pub left : Vault
  pub contents : left.contents ≡ contents_of new
  pub stands : IsVault n left
  pub repairs : DoesRepair n cloud task V left
  pub good : FilesAreGood left
  pub whole : IsMadeWhole cloud V left

-- A repair that was answered Ok was done so, on a vault to which what happened before leads.
abbrev pub AcknowledgedRepair : Type 0
AcknowledgedRepair = (events : List Event) (old mid new : MemFleet) (outcomes : List Outcome) (text : List ℕ) (cloud : ℕ) (o : Outcome)
    (a : RepairAfter events old mid new outcomes text cloud o)
    → o.status ≡ status.Ok
    → (before : HistoryStands (width_of old) (history_of a.drive) empty_vault (contents_of mid))
    × Repaired (width_of old) cloud before.vault mid new o.out
