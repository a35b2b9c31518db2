-- How an act is answered on any contents, by what the clouds held.
use Rattle.std.specs.Prelude.{ℕ, ◌≡◌, ◌<◌, ◌≤◌, ◌+◌, ◌-◌, ◌^◌, ◌&&◌, false, not, Option, None, Some, List, length, slice_get, Contains, IfSome}
use Rattle.nc_name.specs.declared.key.Key.{Key}
use Rattle.nc_name.specs.declared.key.Key.TheVariants as key
use Rattle.nc_code.specs.Codes.{IsMds}
use Rattle.nc_code.specs.Good.{IsGood}
use Rattle.nc_code.specs.Parts.{PlanParts}
use Rattle.nc_meta.specs.declared.meta.Live.{Live}
use Rattle.nc_meta.specs.declared.meta.Meta.{Meta}
use Rattle.nc_meta.specs.declared.meta.Meta.TheVariants as meta
use Rattle.nc_meta.specs.Metas.{generation_of}
use Rattle.nc_mds.specs.Verdicts.{IsFirstPair}
use Rattle.nc_nextloss.specs.GoodCodes.{GoodParts}
use Rattle.nc_search.specs.Searches.{IsMend, IsStart, NoMend, NoStart}
use Rattle.nc_cloud.specs.Contents.{Contents}
use Rattle.nc_cloud.specs.declared.fleet.Fleet.{Ghosts as FleetGhosts}
use Rattle.nc_state.specs.Clouds.{Clouds, count_of}
use Rattle.nc_state.specs.Holding.{AllHold, HoldsIfAny, IsDisputed, IsLiveTop, IsSettledOn, IsTop, IsTopOrNone, Undisputed, top_generation}
use Rattle.nc_state.specs.Standing.{AreNames}
use Rattle.nc_state.specs.Versions.Version.{Removed, Stored}
use Rattle.nc_download.specs.declared.short.Bad.{Bad}
use Rattle.nc_download.specs.declared.short.How.{How}
use Rattle.nc_download.specs.declared.short.Why.{Why}
use Rattle.nc_download.specs.declared.short.Why.TheVariants.{Failed, Row}
use Rattle.nc_download.specs.Clouds.{IsFirstBad, IsGoodCloud}
use Rattle.nc_fetch.specs.Whys.{is_fine, why_at}
use Rattle.nc_repair.specs.Mending.{mended_by}
use Rattle.nc_repair.specs.Repairing.{IsLeastDamaged}
use Rattle.nc_restore.specs.Restored.{IsBadPlace}
use Rattle.nc_restore.specs.Restoring.{bads_outside}
use Rattle.nc_settle.specs.Elsewhere.{LeastMisplaced, NothingMisplaced}
use Rattle.nc_write.specs.Putting.{IsStored, put_meta}
use Rattle.nc_words.specs.declared.act.Act.{Act}
use Rattle.nc_words.specs.declared.act.Act.TheVariants as act
use Rattle.nc_words.specs.declared.setting.Setting.{Setting}
use Rattle.nc_words.specs.Acts.{Task, heals}
use Rattle.nc_vault.specs.declared.fault.Fault.{Fault}
use Rattle.nc_vault.specs.declared.fault.Fault.TheVariants as fault
use Rattle.nc_vault.specs.declared.reply.Reply.{Reply}
use Rattle.nc_vault.specs.declared.reply.Reply.TheVariants as reply
use Rattle.nc_vault.specs.Damage.{AreAllFlaws}
use Rattle.nc_vault.specs.Makings.{next_key, stored_plan}

-- ---- acts that write

-- Of the name the clouds hold this highest metadata at F, if any; no cloud holds another of its generation, nor some of elsewhere.
pub record IsAgreedTop (n : ℕ) (name : List ℕ) (F : Contents) (top : Option Meta) : Type 0 where
  pub nothing_misplaced : NothingMisplaced n name F
  pub is_top : IsTopOrNone n F name top
  pub undisputed : IfSome top (Undisputed n F name)

-- The file v is stored at G, over the highest metadata of F: every cloud holds its metadata, which has the next generation and the
-- first good code that is drawn for it, and both its chunks.
pub record Stores (n : ℕ) (s : Setting) (name v : List ℕ) (F G : Contents) (generation : ℕ) : Type 0 where
  pub top : Option Meta
  pub agreed : IsAgreedTop n name F top
  pub is_next : generation ≡ top_generation top + 1
  pub index : ℕ
  pub good : GoodParts
  pub drawn : IsStart n (next_key s name top) s.budget index good
  pub stored : IsStored n G name (Stored (put_meta n top good v) v)

-- The file of the highest metadata of F is removed at G: every cloud holds the metadata that says so, of the next generation.
pub record Removes (n : ℕ) (name : List ℕ) (F G : Contents) (generation : ℕ) : Type 0 where
  pub top : Option Meta
  pub agreed : IsAgreedTop n name F top
  pub live : IsLiveTop top
  pub is_next : generation ≡ top_generation top + 1
  pub held : AllHold n G name (Removed generation)

-- every cloud holds at G the highest metadata that any held at F, and none a higher one
pub record IsSettledFrom (n : ℕ) (name : List ℕ) (F G : Contents) : Type 0 where
  pub top : Option Meta
  pub agreed : IsAgreedTop n name F top
  pub settled : IsSettledOn n G name top

-- so it is with all names, and this is their number
pub record SettlesAll (n : ℕ) (F G : Contents) (number : ℕ) : Type 0 where
  pub names : List (List ℕ)
  pub are_names : AreNames n F names
  pub is : number ≡ length names
  pub each : (name : List ℕ) → Contains names name → IsSettledFrom n name F G

-- no code was found for the version after the highest metadata
pub record IsSpent (n : ℕ) (s : Setting) (name : List ℕ) (F : Contents) (tried : ℕ) : Type 0 where
  pub all : tried ≡ s.budget
  pub top : Option Meta
  pub is_top : IsTopOrNone n F name top
  pub has_next : top_generation top < 2 ^ 64 - 2
  pub none : NoStart n (next_key s name top) s.budget

-- the highest metadata has the last generation that there is
pub record IsWornAt (n : ℕ) (name : List ℕ) (F : Contents) : Type 0 where
  pub meta : Meta
  pub top : IsTop n F name meta
  pub last : generation_of meta ≡ 2 ^ 64 - 2

-- the highest metadata, if any, is not that of a file
pub record HasNoFile (n : ℕ) (name : List ℕ) (F : Contents) : Type 0 where
  pub top : Option Meta
  pub agreed : IsAgreedTop n name F top
  pub not_live : IsLiveTop top → ⊥

-- why an act that writes isn't done with a name, by what the clouds hold
abbrev pub WriteRefuses : ℕ → Setting → List ℕ → Contents → Fault → Type 0
WriteRefuses n s name F (fault.Misplaced c a b) = LeastMisplaced n name F c a b
WriteRefuses n s name F (fault.Conflict g a b) = NothingMisplaced n name F × IsDisputed n F name g a b
WriteRefuses n s name F fault.Worn = IsWornAt n name F
WriteRefuses n s name F (fault.Spent tried) = IsSpent n s name F tried
WriteRefuses n s name F fault.NoFile = HasNoFile n name F
WriteRefuses n s name F (fault.Cloud c) = Unit {0}
WriteRefuses n s name F fault.Memory = Unit {0}
WriteRefuses n s name F other = ⊥

-- ---- repair

-- for the file of the highest metadata of F a plan and the first good code were drawn, to repair cloud i
pub record DrawsRepair (n : ℕ) (s : Setting) (i : ℕ) (name : List ℕ) (F : Contents) : Type 0 where
  pub old : Live
  pub agreed : IsAgreedTop n name F (Some (meta.Live old))
  pub index : ℕ
  pub plan : PlanParts
  pub good : GoodParts
  pub drawn : IsMend old.code (stored_plan old i) i (next_key s name (Some (meta.Live old))) s.budget index plan good

-- That file is repaired at G: by the code, which has a witness for each next loss, and every cloud holds its metadata after the repair.
pub record IsMendedFrom (n : ℕ) (s : Setting) (i : ℕ) (name : List ℕ) (F G : Contents) : Type 0 where
  pub draws : DrawsRepair n s i name F
  pub is_good : IsGood draws.good.code draws.good.witnesses
  pub zero : List ℕ
  pub one : List ℕ
  pub held : (c : ℕ) → c < n → HoldsIfAny n G name c (Some (meta.Live (mended_by i draws.old draws.good zero one)))

-- the highest metadata of F, if any, isn't that of a file, and every cloud holds it at G
pub record IsSettledWithout (n : ℕ) (name : List ℕ) (F G : Contents) : Type 0 where
  pub top : Option Meta
  pub agreed : IsAgreedTop n name F top
  pub not_live : IsLiveTop top → ⊥
  pub settled : IsSettledOn n G name top

-- a repair that is done with the name has repaired its file, or there is none
pub data RepairsName (n : ℕ) (s : Setting) (i : ℕ) (name : List ℕ) (F G : Contents) : Type 0 where
  mends : IsMendedFrom n s i name F G → RepairsName n s i name F G
  passes : IsSettledWithout n name F G → RepairsName n s i name F G

-- it is done with all names, and repaired no more files than there are names
pub record RepairsAll (n : ℕ) (s : Setting) (i : ℕ) (F G : Contents) (number : ℕ) : Type 0 where
  pub names : List (List ℕ)
  pub are_names : AreNames n F names
  pub few : number ≤ length names
  pub each : (name : List ℕ) → Contains names name → RepairsName n s i name F G

-- no code was found for the repair of the file of the highest metadata
pub record IsMendSpent (n : ℕ) (s : Setting) (i : ℕ) (name : List ℕ) (F : Contents) (tried : ℕ) : Type 0 where
  pub all : tried ≡ s.budget
  pub old : Live
  pub top : IsTop n F name (meta.Live old)
  pub has_next : old.generation < 2 ^ 64 - 2
  pub none : NoMend old.code (stored_plan old i) i (next_key s name (Some (meta.Live old))) s.budget

-- the file of the highest metadata has the last generation
pub record IsWornFile (n : ℕ) (name : List ℕ) (F : Contents) : Type 0 where
  pub old : Live
  pub top : IsTop n F name (meta.Live old)
  pub last : old.generation ≡ 2 ^ 64 - 2

-- of the chunks that the plan takes that of row r on cloud c isn't good at G, for this cause; those of all lower survivors are
pub record FindsBadChunk (n : ℕ) (s : Setting) (i : ℕ) (name : List ℕ) (F G : Contents) (c r : ℕ) (how : How) : Type 0 where
  pub draws : DrawsRepair n s i name F
  pub here : IsLeastDamaged n name draws.old draws.plan i G c r how

-- why a repair isn't done with a name, by what the clouds held when it came to it and what they hold then
abbrev pub RepairRefuses : ℕ → Setting → ℕ → List ℕ → Contents → Contents → Fault → Type 0
RepairRefuses n s i name F G (fault.Misplaced c a b) = LeastMisplaced n name F c a b
RepairRefuses n s i name F G (fault.Conflict g a b) = NothingMisplaced n name F × IsDisputed n F name g a b
RepairRefuses n s i name F G fault.Worn = IsWornFile n name F
RepairRefuses n s i name F G (fault.Spent tried) = IsMendSpent n s i name F tried
RepairRefuses n s i name F G (fault.Damaged c r how) = FindsBadChunk n s i name F G c r how
RepairRefuses n s i name F G (fault.Cloud c) = Unit {0}
RepairRefuses n s i name F G fault.Memory = Unit {0}
RepairRefuses n s i name F G other = ⊥

-- ---- restore

-- under this key cloud c, one of P, has a chunk of the file of this metadata that isn't good
abbrev pub IsBadOf : ℕ → Clouds → List ℕ → Option Meta → Contents → ℕ → Key → Type 0
IsBadOf n P name (Some (meta.Live m)) F c place = IsBadPlace n name m P F c place
IsBadOf n P name other F c place = ⊥

-- Every cloud holds at G the highest metadata that any held at F, and none a higher one. Where that is of a file, its code is MDS. No
-- chunk has changed but those on the clouds of P that weren't good.
pub record RestoresName (n : ℕ) (P : Clouds) (name : List ℕ) (F G : Contents) : Type 0 where
  pub top : Option Meta
  pub agreed : IsAgreedTop n name F top
  pub settled : IsSettledOn n G name top
  pub sound : (m : Live) → top ≡ Some (meta.Live m) → IsMds m.code
  pub kept : (c slot row : ℕ) → (IsBadOf n P name top F c (key.Chunk name slot row) → ⊥) → G c (key.Chunk name slot row) ≡ F c (key.Chunk name slot row)

-- so it is with all names
pub record RestoresAll (n : ℕ) (P : Clouds) (F G : Contents) : Type 0 where
  pub names : List (List ℕ)
  pub are_names : AreNames n F names
  pub each : (name : List ℕ) → Contains names name → RestoresName n P name F G

-- the code of the file of the highest metadata isn't MDS, and this is the least pair that shows it
pub record IsUnsoundFile (n : ℕ) (name : List ℕ) (F : Contents) (a b : ℕ) : Type 0 where
  pub old : Live
  pub agreed : IsAgreedTop n name F (Some (meta.Live old))
  pub kernel : List ℕ
  pub first : IsFirstPair old.code a b kernel

-- cloud c is good, or why it isn't: it failed, or this is its first chunk that isn't good
abbrev pub TellsWhy : ℕ → List ℕ → Live → Contents → ℕ → Option Why → Type 0
TellsWhy n name m F c None = IsGoodCloud n name m F c
TellsWhy n name m F c (Some Failed) = Unit {0}
TellsWhy n name m F c (Some (Row r how)) = IsFirstBad n name m F c r how

-- the clouds outside P that were found good
abbrev pub good_outside : Clouds → List (Option Why) → Clouds
good_outside P whys c = not (P c) && is_fine (why_at whys c)

-- Of the file of the highest metadata a chunk on the clouds of P isn't good, and fewer than n - 2 of the other clouds are: exactly the
-- others are listed, each with its cause.
pub record IsShortFile (n : ℕ) (P : Clouds) (name : List ℕ) (F : Contents) (bads : List Bad) : Type 0 where
  pub old : Live
  pub agreed : IsAgreedTop n name F (Some (meta.Live old))
  pub sound : IsMds old.code
  pub cloud : ℕ
  pub place : Key
  pub bad : IsBadPlace n name old P F cloud place
  pub whys : List (Option Why)
  pub tells : (c : ℕ) → c < n → P c ≡ false → TellsWhy n name old F c (why_at whys c)
  pub few : count_of n (good_outside P whys) + 2 < n
  pub listed : bads ≡ bads_outside P whys n

-- why a restore of the clouds of P isn't done with a name, by what the clouds held when it came to it
abbrev pub RestoreRefuses : ℕ → Clouds → List ℕ → Contents → Fault → Type 0
RestoreRefuses n P name F (fault.Misplaced c a b) = LeastMisplaced n name F c a b
RestoreRefuses n P name F (fault.Conflict g a b) = NothingMisplaced n name F × IsDisputed n F name g a b
RestoreRefuses n P name F (fault.Unsound a b) = IsUnsoundFile n name F a b
RestoreRefuses n P name F (fault.Short bads) = IsShortFile n P name F bads
RestoreRefuses n P name F (fault.Cloud c) = Unit {0}
RestoreRefuses n P name F fault.Memory = Unit {0}
RestoreRefuses n P name F other = ⊥

-- ---- an act on all names, of one of them

-- it is done with the name, to which it came at F
abbrev pub LeavesName : ℕ → Setting → Act → List ℕ → Contents → Contents → Type 0
LeavesName n s (act.Repair i) name F G = RepairsName n s i name F G
LeavesName n s (act.Restore first second) name F G = RestoresName n (heals (act.Restore first second)) name F G
LeavesName n s other name F G = IsSettledFrom n name F G

-- it isn't, for this cause
abbrev pub NameRefuses : ℕ → Setting → Act → List ℕ → Contents → Contents → Fault → Type 0
NameRefuses n s (act.Repair i) name F G cause = RepairRefuses n s i name F G cause
NameRefuses n s (act.Restore first second) name F G cause = RestoreRefuses n (heals (act.Restore first second)) name F cause
NameRefuses n s other name F G cause = WriteRefuses n s name F cause

-- it was done with so many names, in their order, and isn't done with the next one, for this cause
pub record StopsAtName (n : ℕ) (s : Setting) (a : Act) (F G : Contents) (cause : Fault) (after : Option ℕ) : Type 0 where
  pub names : List (List ℕ)
  pub are_names : AreNames n F names
  pub done : ℕ
  pub tells : after ≡ Some done
  pub name : List ℕ
  pub next : slice_get names done ≡ Some name
  pub refuses : NameRefuses n s a name F G cause

-- why it stops: at that name, unless a cloud failed or no memory was found
abbrev pub SweepRefuses : ℕ → Setting → Act → Contents → Contents → Fault → Option ℕ → Type 0
SweepRefuses n s a F G (fault.Cloud c) after = Unit {0}
SweepRefuses n s a F G fault.Memory after = Unit {0}
SweepRefuses n s a F G cause after = StopsAtName n s a F G cause after

-- ---- all of them

-- the reply of an act that is done, from F to G
abbrev pub SaysBy : ℕ → Task → Contents → Contents → Act → Reply → Type 0
SaysBy n task F G (act.Put name) (reply.Stored generation) = Stores n task.setting name task.bytes F G generation
SaysBy n task F G (act.Put name) (reply.Stopped cause after) = WriteRefuses n task.setting name F cause
SaysBy n task F G (act.Remove name) (reply.Removed generation) = Removes n name F G generation
SaysBy n task F G (act.Remove name) (reply.Stopped cause after) = WriteRefuses n task.setting name F cause
SaysBy n task F G (act.Repair i) (reply.Repaired files) = RepairsAll n task.setting i F G files
SaysBy n task F G (act.Repair i) (reply.Stopped cause after) = SweepRefuses n task.setting (act.Repair i) F G cause after
SaysBy n task F G (act.Restore first second) (reply.Restored objects) = RestoresAll n (heals (act.Restore first second)) F G
SaysBy n task F G (act.Restore first second) (reply.Stopped cause after) = SweepRefuses n task.setting (act.Restore first second) F G cause after
SaysBy n task F G act.Recover (reply.Settled names) = SettlesAll n F G names
SaysBy n task F G act.Recover (reply.Stopped cause after) = SweepRefuses n task.setting act.Recover F G cause after
SaysBy n task F G act.Scrub (reply.Damage flaws) = AreAllFlaws n F flaws
SaysBy n task F G act.Scrub (reply.Stopped cause after) = SweepRefuses n task.setting act.Scrub F G cause after
SaysBy n task F G a answer = Unit {0}

abbrev pub Says : {A : Type 0} → FleetGhosts A → Task → A → A → Reply → Type 0
Says F task old new answer = SaysBy (F.clouds old) task (F.held old) (F.held new) task.act answer
