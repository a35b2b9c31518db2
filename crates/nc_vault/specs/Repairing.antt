-- The repair of the file that a name is settled on.
use Rattle.std.specs.Prelude.{ℕ, ◌≡◌, ◌≢◌, ◌<◌, Option, Some, List}
use Rattle.nc_code.specs.Parts.{IsPlan, PlanParts}
use Rattle.nc_cloud.specs.Fleet.{got_count}
use Rattle.nc_cloud.specs.Stopping.{GoesOn, Keeps}
use Rattle.nc_cloud.specs.declared.fleet.Fleet.{Ghosts as FleetGhosts}
use Rattle.nc_meta.specs.declared.meta.Live.{Live}
use Rattle.nc_meta.specs.declared.meta.Meta.{Meta}
use Rattle.nc_meta.specs.declared.meta.Meta.TheVariants as meta
use Rattle.nc_nextloss.specs.GoodCodes.{GoodParts}
use Rattle.nc_repair.specs.declared.fault.RepairFault.{RepairFault}
use Rattle.nc_repair.specs.declared.fault.RepairFault.TheVariants as repair
use Rattle.nc_repair.specs.Mending.{IsRepaired}
use Rattle.nc_repair.specs.Repairing.{HasRepairCause, IfDamaged, IsMendedTop, RightAgain, StopsRepair, fetched_of}
use Rattle.nc_state.specs.Holding.{HoldsIfAny}
use Rattle.nc_state.specs.Vaults.{ChangesOnlyName, MayBegin, MayDo}
use Rattle.nc_words.specs.declared.setting.Setting.{Setting}
use Rattle.nc_vault.specs.declared.fault.Fault.{Fault}
use Rattle.nc_vault.specs.Counting.{CountsGrow}
use Rattle.nc_vault.specs.Drawing.{IsRepairDrawn, RefusesRepair}
use Rattle.nc_vault.specs.Faults.{fault_of_repair}

-- The number of clouds is the same, time went on, and no count fell.
pub record Advances {A : Type 0} (F : FleetGhosts A) (old new : A) : Type 0 where
  pub clouds : F.clouds new ≡ F.clouds old
  pub grows : CountsGrow F old new
  pub time : GoesOn F old new

-- what each stop and the end leave of the repair of cloud i on the file of this metadata, by this code
pub record Mends {A : Type 0} (F : FleetGhosts A) (n : ℕ) (name : List ℕ) (m : Live) (i : ℕ) (good : GoodParts) (old new : A) : Type 0 where
  pub begins : F.tells → MayBegin F n name (Some (meta.Live m)) (IsRepaired n i good) old new
  pub alone : F.tells → Keeps F old new (ChangesOnlyName name (F.held old))
  pub advances : Advances F old new

-- It is done: by the first good code that is drawn, cloud i has its chunks of the file again, every cloud holds this metadata, and one
-- chunk was read from each other cloud.
pub record IsFileMended {A : Type 0} (F : FleetGhosts A) (n : ℕ) (s : Setting) (i : ℕ) (name : List ℕ) (m : Live) (old new : A) (next : Option Meta) : Type 0 where
  pub plan : PlanParts
  pub good : GoodParts
  pub drawn : IsRepairDrawn s i name m plan good
  pub mends : Mends F n name m i good old new
  pub does : F.tells → MayDo n name (Some (meta.Live m)) (IsRepaired n i good) (F.held old) (F.held new) next
  pub right : F.tells → RightAgain n name m i good (F.held old) (F.held new)
  pub made : IsMendedTop i m good next
  pub held : F.tells → (c : ℕ) → c < n → HoldsIfAny n (F.held new) name c next
  pub clean : F.counts_exactly → (c : ℕ) → F.faults new c ≡ F.faults old c
  pub gets : (c : ℕ) → c < n → F.chunk_gets new c ≡ got_count (F.chunk_gets old c) (fetched_of i c)

-- the code was drawn, and this kept the repair by it from being done
pub record IsUnmendedBy {A : Type 0} (F : FleetGhosts A) (n : ℕ) (s : Setting) (i : ℕ) (name : List ℕ) (m : Live) (old new : A) (why : RepairFault) : Type 0 where
  pub plan : PlanParts
  pub is_plan : IsPlan plan
  pub good : GoodParts
  pub drawn : IsRepairDrawn s i name m plan good
  pub mends : Mends F n name m i good old new
  pub not_worn : why ≢ repair.Worn
  pub cause : HasRepairCause F.counts_exactly (F.faults old) (F.faults new) why
  pub stops : F.tells → StopsRepair n name m plan i (F.held old) why
  pub kept : IfDamaged (F.held new ≡ F.held old) why

-- It isn't, for this cause: no code was drawn, and nothing was done; or the repair by it stopped.
pub data IsFileUnmended {A : Type 0} (F : FleetGhosts A) (n : ℕ) (s : Setting) (i : ℕ) (name : List ℕ) (m : Live) (old new : A) (cause : Fault) : Type 0 where
  undrawn : new ≡ old → RefusesRepair s i name m cause → IsFileUnmended F n s i name m old new cause
  stopped : (why : RepairFault) → cause ≡ fault_of_repair why → IsUnmendedBy F n s i name m old new why → IsFileUnmended F n s i name m old new cause
