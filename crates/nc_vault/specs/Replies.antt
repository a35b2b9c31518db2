-- How an act is answered on contents that stand.
use Rattle.std.specs.Prelude.{ℕ, ◌≡◌, ◌<◌, ◌+◌, if◌then◌else◌, Bool, true, false, List, [], ◌∷◌, length, Contains}
use Rattle.nc_cloud.specs.Contents.{Contents}
use Rattle.nc_cloud.specs.declared.fleet.Fleet.{Ghosts as FleetGhosts}
use Rattle.nc_state.specs.Clouds.{Clouds}
use Rattle.nc_state.specs.Showing.{AreBearable, together}
use Rattle.nc_state.specs.Standing.{AreNames}
use Rattle.nc_state.specs.Vaults.{Vault, version_in}
use Rattle.nc_state.specs.Versions.{Version, is_stored, version_generation}
use Rattle.nc_state.specs.Versions.Version.{Stored}
use Rattle.nc_restore.specs.Restored.{wrong_count}
use Rattle.nc_words.specs.declared.act.Act.{Act}
use Rattle.nc_words.specs.declared.act.Act.TheVariants as act
use Rattle.nc_words.specs.Acts.{Task, heals}
use Rattle.nc_vault.specs.declared.fault.Fault.{Fault}
use Rattle.nc_vault.specs.declared.fault.Fault.TheVariants as fault
use Rattle.nc_vault.specs.declared.reply.Reply.{Reply}
use Rattle.nc_vault.specs.declared.reply.Reply.TheVariants as reply
use Rattle.nc_vault.specs.Counting.{bears_failures, failing_in, restores}
use Rattle.nc_vault.specs.Damage.{AreAllFlaws}
use Rattle.nc_vault.specs.Makings.{Prevents}
use Rattle.nc_vault.specs.Showing.{ReadsAbout, ReadsFile, ReadsList, ReadsNone}
use Rattle.nc_vault.specs.Vaults.{WorksOn}

-- the number of all names that stand on clouds
pub record CountsNames (n : ℕ) (F : Contents) (number : ℕ) : Type 0 where
  pub names : List (List ℕ)
  pub are_names : AreNames n F names
  pub is : number ≡ length names

-- how many of these names have a file
abbrev pub file_count : ℕ → Vault → List (List ℕ) → ℕ
file_count n V [] = 0
file_count n V (name ∷ names) = (if is_stored (version_in n V name) then 1 else 0) + file_count n V names

-- the number of all files
pub record CountsFiles (n : ℕ) (V : Vault) (number : ℕ) : Type 0 where
  pub names : List (List ℕ)
  pub are_names : AreNames n V.contents names
  pub is : number ≡ file_count n V names

-- how many chunks of the name aren't right on the clouds that the act makes whole
abbrev pub wrong_in : ℕ → Clouds → Contents → List ℕ → Version → ℕ
wrong_in n P G name (Stored m v) = wrong_count n name m v P G
wrong_in n P G name other = 0

-- how many aren't, of these names
abbrev pub wrong_among : ℕ → Clouds → Vault → List (List ℕ) → ℕ
wrong_among n P V [] = 0
wrong_among n P V (name ∷ names) = wrong_in n P V.contents name (version_in n V name) + wrong_among n P V names

-- the number of all chunks that aren't right on the clouds that the act makes whole
pub record CountsObjects (n : ℕ) (a : Act) (V : Vault) (number : ℕ) : Type 0 where
  pub names : List (List ℕ)
  pub are_names : AreNames n V.contents names
  pub is : number ≡ wrong_among n (heals a) V names

-- the reply of an act that is done
abbrev pub RepliesBy : ℕ → Vault → Clouds → Act → Reply → Type 0
RepliesBy n V X (act.Put name) (reply.Stored generation) = generation ≡ version_generation (version_in n V name) + 1
RepliesBy n V X (act.Remove name) (reply.Removed generation) = generation ≡ version_generation (version_in n V name) + 1
RepliesBy n V X (act.Get name) (reply.Bytes v) = AreBearable n V.damaged X → ReadsFile n V X name v
RepliesBy n V X (act.Stat name) (reply.About generation len witnessed) = AreBearable n V.damaged X → ReadsAbout n V X name generation len witnessed
RepliesBy n V X act.List (reply.Listing rows) = AreBearable n V.damaged X → ReadsList n V X rows
RepliesBy n V X (act.Repair i) (reply.Repaired files) = CountsFiles n V files
RepliesBy n V X (act.Restore first second) (reply.Restored objects) = CountsObjects n (act.Restore first second) V objects
RepliesBy n V X act.Recover (reply.Settled names) = CountsNames n V.contents names
RepliesBy n V X act.Scrub (reply.Damage flaws) = AreAllFlaws n V.contents flaws
RepliesBy n V X a other = ⊥

-- a name that the act works on keeps it from being done
pub record IsPrevented (n : ℕ) (task : Task) (V : Vault) (cause : Fault) : Type 0 where
  pub names : List (List ℕ)
  pub works_on : WorksOn n V.contents task.act names
  pub name : List ℕ
  pub among : Contains names name
  pub prevents : Prevents n task name (version_in n V name) cause

abbrev pub FindsNoFile : ℕ → Task → Vault → Clouds → Act → Type 0
FindsNoFile n task V X (act.Get name) = AreBearable n V.damaged X → ReadsNone n V X name
FindsNoFile n task V X (act.Stat name) = AreBearable n V.damaged X → ReadsNone n V X name
FindsNoFile n task V X other = IsPrevented n task V fault.NoFile

-- a damaged cloud that the act doesn't make whole
pub record IsAnotherDamaged (n : ℕ) (a : Act) (D : Clouds) (c : ℕ) : Type 0 where
  pub in_width : c < n
  pub damaged : D c ≡ true
  pub other : heals a c ≡ false

-- a repair may find one, on which the chunk that it needs isn't good
abbrev pub FindsDamaged : ℕ → Act → Clouds → ℕ → Type 0
FindsDamaged n (act.Repair i) D c = IsAnotherDamaged n (act.Repair i) D c
FindsDamaged n other D c = ⊥

-- what can't be, while no more clouds are damaged or failing than the act bears
abbrev pub CannotBe : ℕ → Vault → Clouds → Bool → Type 0
CannotBe n V X true = AreBearable n V.damaged X → ⊥
CannotBe n V X false = ⊥

-- one of the clouds that the act makes whole is damaged
pub record HealsDamaged (n : ℕ) (a : Act) (D : Clouds) : Type 0 where
  pub cloud : ℕ
  pub in_width : cloud < n
  pub healed : heals a cloud ≡ true
  pub damaged : D cloud ≡ true

-- Too few clouds are good only where more are damaged or failing than the act bears. A restore reads from none that it makes whole, and
-- only where it has to write.
abbrev pub FindsTooFew : Bool → ℕ → Act → Vault → Clouds → Type 0
FindsTooFew true n a V X = HealsDamaged n a V.damaged × (AreBearable n (together V.damaged (heals a)) X → ⊥)
FindsTooFew false n a V X = CannotBe n V X (bears_failures a)

-- Why an act stops on clouds that stand, while those of X failed. Nothing else stops it.
abbrev pub StopsFor : ℕ → Task → Vault → Clouds → Fault → Type 0
StopsFor n task V X fault.NoFile = FindsNoFile n task V X task.act
StopsFor n task V X (fault.Cloud c) = X c ≡ true
StopsFor n task V X (fault.Short bads) = FindsTooFew (restores task.act) n task.act V X
StopsFor n task V X (fault.Spent tried) = IsPrevented n task V (fault.Spent tried)
StopsFor n task V X fault.Worn = IsPrevented n task V fault.Worn
StopsFor n task V X (fault.Conflict generation a b) = CannotBe n V X (bears_failures task.act)
StopsFor n task V X (fault.Misplaced c a w) = ⊥
StopsFor n task V X (fault.Unsound a b) = CannotBe n V X (bears_failures task.act)
StopsFor n task V X (fault.Damaged c r how) = FindsDamaged n task.act V.damaged c
StopsFor n task V X fault.Memory = Unit {0}

-- the reply of a task that began at V, while the clouds of X failed
abbrev pub RepliesWith : ℕ → Task → Vault → Clouds → Reply → Type 0
RepliesWith n task V X (reply.Stopped cause after) = StopsFor n task V X cause
RepliesWith n task V X other = RepliesBy n V X task.act other

-- the same of a fleet, from whatever its contents stood for
abbrev pub RepliesTo : {A : Type 0} → FleetGhosts A → Task → A → A → Reply → Vault → Type 0
RepliesTo F task old new answer V = RepliesWith (F.clouds old) task V (failing_in F task.act old new) answer
