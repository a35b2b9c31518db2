-- An act on all names, name by name.
use Rattle.std.specs.Prelude.{ℕ, ◌≡◌, ◌≤◌, if◌then◌else◌, Bool, true, false, Some, List}
use Rattle.nc_cloud.specs.Deciding.{IsFirstToRise}
use Rattle.nc_cloud.specs.Stopping.{GoesOn, Keeps, Stops}
use Rattle.nc_cloud.specs.declared.fleet.Fleet.{Ghosts as FleetGhosts}
use Rattle.nc_state.specs.Clouds.{Clouds}
use Rattle.nc_state.specs.Showing.{AreBearable, together}
use Rattle.nc_state.specs.Vaults.{BeginsMaking, ChangesOnlyName, ForEachVault, Vault, version_in}
use Rattle.nc_state.specs.Versions.{is_stored}
use Rattle.nc_download.specs.Finding.{HasRisen}
use Rattle.nc_write.specs.Tidying.{NoneSlipped}
use Rattle.nc_words.specs.declared.act.Act.{Act}
use Rattle.nc_words.specs.declared.act.Act.TheVariants as act
use Rattle.nc_words.specs.Acts.{Task, heals}
use Rattle.nc_vault.specs.declared.fault.Fault.{Fault}
use Rattle.nc_vault.specs.declared.fault.Fault.TheVariants as fault
use Rattle.nc_vault.specs.declared.reply.Reply.TheVariants as reply
use Rattle.nc_vault.specs.Acting.{IsTidied}
use Rattle.nc_vault.specs.Counting.{CostsBy, CountsGrow, HaveFailed, IsLeastHealed, StayHealed, TookFrom, chunks_from, may_read_chunks, restores}
use Rattle.nc_vault.specs.Makings.{Makes, Prevents}
use Rattle.nc_vault.specs.Replies.{FindsDamaged, HealsDamaged, wrong_in}
use Rattle.nc_vault.specs.Saying.{LeavesName, NameRefuses}
use Rattle.nc_vault.specs.Vaults.{DoesName, StandsBegun, StandsFinished}

-- The part of the act that works on one name, from whatever the contents stood for: what each stop and the end leave of it.
abbrev pub BeginsPart : {A : Type 0} → FleetGhosts A → Task → List ℕ → A → A → Type 0
BeginsPart F task name old new =
    ForEachVault (F.clouds old) (F.held old) (λ V. Keeps F old new (BeginsMaking (F.clouds old) name (Makes (F.clouds old) task name) V))

-- what the act counts of a name: a repair one file or none, a restore the chunks that aren't right on the clouds that it makes whole
abbrev pub counted_in : ℕ → Act → Vault → List ℕ → ℕ
counted_in n (act.Repair i) V name = if is_stored (version_in n V name) then 1 else 0
counted_in n (act.Restore first second) V name = wrong_in n (heals (act.Restore first second)) V.contents name (version_in n V name)
counted_in n other V name = 0

-- a repair counts no more files than there are names
abbrev pub AtMost : Act → ℕ → ℕ → Type 0
AtMost (act.Restore first second) files names = Unit {0}
AtMost other files names = files ≤ names

-- what the act read of chunks, by what it counted; of a restore nothing is said
abbrev pub TookPart : ℕ → Act → ℕ → (ℕ → ℕ) → (ℕ → ℕ) → Type 0
TookPart n (act.Restore first second) files before now = Unit {0}
TookPart n a files before now = TookFrom n before now (chunks_from a files)

-- The same part where it is done.
abbrev pub DoesPart : {A : Type 0} → FleetGhosts A → Task → List ℕ → A → A → Type 0
DoesPart F task name old new = ForEachVault (F.clouds old) (F.held old) (λ V. DoesName (F.clouds old) task name V (F.held new))

-- no count of failures changed; of a restore, none of a cloud that it makes whole
abbrev pub CleanPart : Act → (ℕ → ℕ) → (ℕ → ℕ) → Type 0
CleanPart (act.Restore first second) before now = StayHealed (act.Restore first second) before now
CleanPart other before now = (c : ℕ) → now c ≡ before c

-- What an act on all names did with one of them, to which it came at `old`: it is done with it, and counted so much of it.
pub record PartDone {A : Type 0} (F : FleetGhosts A) (task : Task) (name : List ℕ) (files : ℕ) (old new : A) : Type 0 where
  pub clouds : F.clouds new ≡ F.clouds old
  pub grows : CountsGrow F old new
  pub time : GoesOn F old new
  pub few : files ≤ 4
  pub one : AtMost task.act files 1
  pub took : TookPart (F.clouds old) task.act files (F.chunk_gets old) (F.chunk_gets new)
  pub clean : F.counts_exactly → CleanPart task.act (F.faults old) (F.faults new)
  pub alone : F.tells → Keeps F old new (ChangesOnlyName name (F.held old))
  pub begins : F.tells → BeginsPart F task name old new
  pub does : F.tells → DoesPart F task name old new
  pub counts : F.tells → ForEachVault (F.clouds old) (F.held old) (λ V. files ≡ counted_in (F.clouds old) task.act V name)
  pub leaves : F.tells → LeavesName (F.clouds old) task.setting task.act name (F.held old) (F.held new)
  pub tidy : F.tells → F.sure_deletes → restores task.act ≡ false → NoneSlipped F old new → IsTidied (F.clouds old) (F.held new) name

-- the counts of failures where it isn't done
abbrev pub PartCounts : Type 0 → (ℕ → ℕ) → (ℕ → ℕ) → Fault → Type 0
PartCounts exact before now (fault.Cloud c) = IsFirstToRise exact before now c
PartCounts exact before now (fault.Damaged c r how) = exact → (d : ℕ) → d ≤ c → now d ≡ before d
PartCounts exact before now fault.Memory = Unit {0}
PartCounts exact before now other = exact → (c : ℕ) → now c ≡ before c

-- the same of a restore, which bears that other clouds fail
abbrev pub RestoreCounts : Type 0 → Act → (ℕ → ℕ) → (ℕ → ℕ) → Fault → Type 0
RestoreCounts exact a before now (fault.Cloud c) = IsLeastHealed exact a before now c
RestoreCounts exact a before now (fault.Short bads) = (exact → StayHealed a before now) × HaveFailed bads before now
RestoreCounts exact a before now fault.Memory = Unit {0}
RestoreCounts exact a before now other = exact → StayHealed a before now

abbrev pub PartCountsBy : Type 0 → Act → (ℕ → ℕ) → (ℕ → ℕ) → Fault → Type 0
PartCountsBy exact (act.Restore first second) before now cause = RestoreCounts exact (act.Restore first second) before now cause
PartCountsBy exact a before now cause = PartCounts exact before now cause

-- a dispute, or metadata of elsewhere, that the look saw
abbrev pub IsSeenCause : Fault → Type 0
IsSeenCause (fault.Conflict g a b) = Unit {0}
IsSeenCause (fault.Misplaced c a b) = Unit {0}
IsSeenCause other = ⊥

-- One of the clouds that the act makes whole is damaged, and more than two clouds are damaged, to be made whole, or among any that have
-- all those of which a count rose.
pub record TooFewShow {A : Type 0} (F : FleetGhosts A) (a : Act) (old new : A) (V : Vault) : Type 0 where
  pub heals_one : HealsDamaged (F.clouds old) a V.damaged
  pub each : (X : Clouds) → HasRisen F old new X → AreBearable (F.clouds old) (together V.damaged (heals a)) X → ⊥

-- a restore may find too few good clouds
abbrev pub PartIsShort : {A : Type 0} → Bool → FleetGhosts A → Act → A → A → Vault → Type 0
PartIsShort true F a old new V = TooFewShow F a old new V
PartIsShort false F a old new V = ⊥

-- why it isn't done with a name of clouds that stand; nothing else stops it
abbrev pub PartStops : {A : Type 0} → FleetGhosts A → Task → List ℕ → A → A → Fault → Vault → Type 0
PartStops F task name old new (fault.Cloud c) V = Unit {0}
PartStops F task name old new (fault.Damaged c r how) V = FindsDamaged (F.clouds old) task.act V.damaged c
PartStops F task name old new (fault.Short bads) V = PartIsShort (restores task.act) F task.act old new V
PartStops F task name old new (fault.Spent tried) V = Prevents (F.clouds old) task name (version_in (F.clouds old) V name) (fault.Spent tried)
PartStops F task name old new fault.Worn V = Prevents (F.clouds old) task name (version_in (F.clouds old) V name) fault.Worn
PartStops F task name old new fault.Memory V = Unit {0}
PartStops F task name old new other V = ⊥

-- It isn't done with it, for this cause.
pub record PartStopped {A : Type 0} (F : FleetGhosts A) (task : Task) (name : List ℕ) (cause : Fault) (old new : A) : Type 0 where
  pub clouds : F.clouds new ≡ F.clouds old
  pub grows : CountsGrow F old new
  pub time : GoesOn F old new
  pub reads : CostsBy (may_read_chunks task.act (reply.Stopped cause (Some 0))) (F.chunk_gets old) (F.chunk_gets new)
  pub kept : IsSeenCause cause → F.held new ≡ F.held old
  pub counts : PartCountsBy F.counts_exactly task.act (F.faults old) (F.faults new) cause
  pub alone : F.tells → Keeps F old new (ChangesOnlyName name (F.held old))
  pub begins : F.tells → BeginsPart F task name old new
  pub refuses : F.tells → NameRefuses (F.clouds old) task.setting task.act name (F.held old) (F.held new) cause
  pub stops : F.tells → ForEachVault (F.clouds old) (F.held old) (PartStops F task name old new cause)

-- Between the works on two names: the act, which began at `old`, is done with so many; each stop since stands for it begun.
pub record NamesKept {A : Type 0} (F : FleetGhosts A) (n : ℕ) (task : Task) (names : List (List ℕ)) (done : ℕ) (old new : A) (V : Vault) : Type 0 where
  pub stops : Stops F old new (StandsBegun n task V)
  pub reached : StandsFinished n task V names done (F.held new)
