-- The laws of histories.
use Rattle.std.specs.Prelude.{ℕ, ◌≡◌, ◌≤◌, Option, None, Some, List, [], Contains}
use Rattle.nc_name.specs.Names.{IsName}
use Rattle.nc_cloud.specs.Contents.{Contents}
use Rattle.nc_state.specs.Losses.{Loses}
use Rattle.nc_state.specs.Vaults.{IsVault, Vault, version_in}
use Rattle.nc_state.specs.Versions.{value_of}
use Rattle.nc_words.specs.declared.act.Act.TheVariants as act
use Rattle.nc_words.specs.Acts.{Task}
use Rattle.nc_download.specs.declared.short.Bad.{Bad}
use Rattle.nc_vault.specs.declared.fault.Fault.{Fault}
use Rattle.nc_vault.specs.declared.fault.Fault.TheVariants as fault
use Rattle.nc_vault.specs.declared.reply.Reply.TheVariants as reply
use Rattle.nc_history.specs.Runs.{LeadsTo}
use Rattle.nc_history.specs.Histories.{Bears, Happening, HappensTo, HistoryTo, LosesFew, StandsHappened, damaged_by, empty_vault}
use Rattle.nc_history.specs.Histories.Happening.{Ran, Lost}
use Rattle.nc_history.specs.Repairs.{DoesRepair, FilesAreGood, IsMadeWhole}
use Rattle.nc_history.specs.Values.{GaveLast, GetIsAnswered, IsAllowed, MayStopGet, NoneGivesSince, since, unfinished}

-- ---- what happens

-- clouds without objects stand
abbrev pub EmptyVaultStands : Type 0
EmptyVaultStands = (n : ℕ) → 4 ≤ n → n ≤ 10 → IsVault n empty_vault

-- what a run leaves stands for it
abbrev pub RunLeads : Type 0
RunLeads = (n : ℕ) (tasks : List Task) (next : Option Task) (V : Vault) (G : Contents)
    → LeadsTo n tasks next V G → StandsHappened n (Ran tasks next) V G

-- what a loss leaves stands for it, where at most two clouds are damaged then
abbrev pub LossLeads : Type 0
LossLeads = (n lost : ℕ) (V : Vault) (G : Contents)
    → IsVault n V → Loses lost V.contents G → Bears n (Lost lost) V.damaged
    → StandsHappened n (Lost lost) V G

-- what a history leaves stands
abbrev pub HistoryStands : Type 0
HistoryStands = (n : ℕ) (hs : List Happening) (V W : Vault)
    → IsVault n V → HistoryTo n hs V W → IsVault n W

-- which clouds are damaged by what happened
abbrev pub DamageIs : Type 0
DamageIs = (n : ℕ) (h : Happening) (V W : Vault)
    → HappensTo n h V W → W.damaged ≡ damaged_by h V.damaged

-- in a history each loss leaves at most two clouds damaged
abbrev pub LossesAreFew : Type 0
LossesAreFew = (n : ℕ) (hs : List Happening) (V W : Vault)
    → HistoryTo n hs V W → LosesFew n hs V.damaged

-- ---- what a get gives after a history, while damaged and failing clouds are at most two together

-- bytes are those of the last put that was done, or of an unfinished one since
abbrev pub LastDoneIsGot : Type 0
LastDoneIsGot = (n : ℕ) (hs : List Happening) (V W : Vault) (name v : List ℕ)
    (gave : GaveLast name hs)
    → HistoryTo n hs V W → GetIsAnswered n W name (reply.Bytes v) → IsAllowed gave (Some v)

-- no file is found only after a removal: the last act that was done, or an unfinished one since
abbrev pub NoFileIsRight : Type 0
NoFileIsRight = (n : ℕ) (hs : List Happening) (V W : Vault) (name : List ℕ) (after : Option ℕ)
    (gave : GaveLast name hs)
    → HistoryTo n hs V W → GetIsAnswered n W name (reply.Stopped fault.NoFile after)
    → IsAllowed gave None

-- enough clouds are good
abbrev pub EnoughAreGood : Type 0
EnoughAreGood = (n : ℕ) (W : Vault) (name : List ℕ) (bads : List Bad) (after : Option ℕ)
    → GetIsAnswered n W name (reply.Stopped (fault.Short bads) after) → ⊥

-- it stops for no other cause
abbrev pub NothingElseStopsGet : Type 0
NothingElseStopsGet = (n : ℕ) (W : Vault) (name : List ℕ) (cause : Fault) (after : Option ℕ)
    (answered : GetIsAnswered n W name (reply.Stopped cause after))
    → MayStopGet answered.failing cause

-- ---- where no act that was done gave the name a value

-- bytes are those of an unfinished put
abbrev pub NoneDoneIsUnfinished : Type 0
NoneDoneIsUnfinished = (n : ℕ) (hs : List Happening) (W : Vault) (name v : List ℕ)
    → HistoryTo n hs empty_vault W → NoneGivesSince hs name
    → GetIsAnswered n W name (reply.Bytes v) → Contains (unfinished hs name) (Some v)

-- so there are none where no act was begun that would give it one
abbrev pub NeverPutHasNoFile : Type 0
NeverPutHasNoFile = (n : ℕ) (hs : List Happening) (W : Vault) (name v : List ℕ)
    → HistoryTo n hs empty_vault W → NoneGivesSince hs name → unfinished hs name ≡ []
    → GetIsAnswered n W name (reply.Bytes v) → ⊥

-- ---- where no act since was begun that would give the name a value

-- after a put its bytes are got
abbrev pub PutThenGet : Type 0
PutThenGet = (n : ℕ) (hs : List Happening) (V W : Vault) (name v : List ℕ)
    (gave : GaveLast name hs)
    → HistoryTo n hs V W → gave.task.act ≡ act.Put name → unfinished (since gave) name ≡ []
    → GetIsAnswered n W name (reply.Bytes v) → v ≡ gave.task.bytes

-- and a file is found
abbrev pub PutIsFound : Type 0
PutIsFound = (n : ℕ) (hs : List Happening) (V W : Vault) (name : List ℕ) (after : Option ℕ)
    (gave : GaveLast name hs)
    → HistoryTo n hs V W → gave.task.act ≡ act.Put name → unfinished (since gave) name ≡ []
    → GetIsAnswered n W name (reply.Stopped fault.NoFile after) → ⊥

-- after a removal no bytes are
abbrev pub RemovedIsGone : Type 0
RemovedIsGone = (n : ℕ) (hs : List Happening) (V W : Vault) (name v : List ℕ)
    (gave : GaveLast name hs)
    → HistoryTo n hs V W → gave.task.act ≡ act.Remove name → unfinished (since gave) name ≡ []
    → GetIsAnswered n W name (reply.Bytes v) → ⊥

-- ---- what a repair that was done leaves

-- each file's code has a witness for each next loss
abbrev pub RepairedIsGood : Type 0
RepairedIsGood = (n i : ℕ) (task : Task) (V W : Vault) → DoesRepair n i task V W → FilesAreGood W

-- the cloud isn't damaged, and the others are as they were
abbrev pub RepairedIsWhole : Type 0
RepairedIsWhole = (n i : ℕ) (task : Task) (V W : Vault) → DoesRepair n i task V W → IsMadeWhole i V W

-- each name has the bytes that it had, or still no file
abbrev pub RepairKeepsFiles : Type 0
RepairKeepsFiles = (n i : ℕ) (task : Task) (V W : Vault) (name : List ℕ)
    → DoesRepair n i task V W → IsName name → value_of (version_in n W name) ≡ value_of (version_in n V name)
