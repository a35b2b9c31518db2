-- What the repair of a file does.
use Rattle.std.specs.Prelude.{ℕ, ◌≡◌, ◌≢◌, ◌-◌, ◌^◌, ◌<◌, ◌≤◌, ◌==◌, if◌then◌else◌, Option, None, Some, List, Result, Ok, Err}
use Rattle.nc_code.specs.Parts.{PlanParts}
use Rattle.nc_meta.specs.declared.meta.Live.{Live}
use Rattle.nc_meta.specs.declared.meta.Meta.{Meta}
use Rattle.nc_meta.specs.declared.meta.Meta.TheVariants as meta
use Rattle.nc_nextloss.specs.GoodCodes.{GoodParts}
use Rattle.nc_cloud.specs.declared.deciding.RoundFault.{RoundFault}
use Rattle.nc_cloud.specs.declared.deciding.RoundFault.TheVariants as round
use Rattle.nc_cloud.specs.declared.fleet.Fleet.{Ghosts as FleetGhosts}
use Rattle.nc_cloud.specs.Deciding.{IsFirstToRise}
use Rattle.nc_cloud.specs.Contents.{Contents}
use Rattle.nc_download.specs.Clouds.{IsBadRow, IsGoodCloud, IsGoodRow}
use Rattle.nc_download.specs.declared.short.How.{How}
use Rattle.nc_settle.specs.declared.settled.Settled.{Settled}
use Rattle.nc_write.specs.declared.sealing.VersionWrites.{VersionWrites}
use Rattle.nc_write.specs.InTurn.{WroteInTurn, rounds_of}
use Rattle.nc_repair.specs.declared.fault.RepairFault.{RepairFault}
use Rattle.nc_repair.specs.declared.fault.RepairFault.TheVariants as fault
use Rattle.nc_mix.specs.declared.pieces.Pair.{Pair}
use Rattle.nc_state.specs.Clouds.{Clouds}
use Rattle.nc_state.specs.Holding.{AllHold}
use Rattle.nc_state.specs.Right.{PlacesStand, RightOn}
use Rattle.nc_state.specs.Versions.{IsValid}
use Rattle.nc_state.specs.Versions.Version.{Stored}
use Rattle.nc_repair.specs.Mending.{MendsWith, mended_by, mended_meta}
use Rattle.nc_repair.specs.Remaking.{NotRemade, Remade}
use Rattle.nc_repair.specs.Survivors.{chosen_row}

-- after this metadata there is no generation
abbrev pub IsWornOut : Live → Type 0
IsWornOut m = 2 ^ 64 - 2 ≤ m.generation

-- the answer of a repair whose rounds of writes were answered so, which writes this metadata
abbrev pub answer_by : Meta → Result (Unit {0}) RoundFault → Result Settled RepairFault
answer_by m (Ok done) = Ok (record { top = Some m })
answer_by m (Err (round.Cloud c)) = Err (fault.Cloud c)
answer_by m (Err round.Memory) = Err fault.Memory

-- A repair of cloud lost after this metadata: no generation was left, and nothing was done; or the new chunks weren't made, or no memory was
-- found for the writes, and nothing was written; or the writes were made of the new chunks, and made in turn.
pub data RepairDid {A : Type 0} (F : FleetGhosts A) (name : List ℕ) (m : Live) (plan : PlanParts) (lost : ℕ) (good : GoodParts) (old new : A) (result : Result Settled RepairFault) : Type 0 where
  was_worn : IsWornOut m → new ≡ old → result ≡ Err fault.Worn → RepairDid F name m plan lost good old new result
  not_made : (IsWornOut m → ⊥) → (why : RepairFault) → NotRemade F name m plan lost old new why → result ≡ Err why → RepairDid F name m plan lost good old new result
  unsealed : (IsWornOut m → ⊥) → (pair : Pair) → Remade F name m plan lost old new pair → result ≡ Err fault.Memory → RepairDid F name m plan lost good old new result
  in_turn : (IsWornOut m → ⊥) → (pair : Pair) (mid : A) → Remade F name m plan lost old mid pair → (w : VersionWrites) (answer : Result (Unit {0}) RoundFault)
      → MendsWith (F.clouds old) name lost m plan good pair w → WroteInTurn F (rounds_of w) mid new answer → result ≡ answer_by (meta.Live w.live) answer → RepairDid F name m plan lost good old new result

-- how many chunks a repair reads from a cloud: one from each survivor
abbrev pub fetched_of : ℕ → ℕ → ℕ
fetched_of lost c = if c == lost then 0 else 1

-- each survivor below cloud c holds the chunk that the plan takes from it, good
pub record GoodBelow (n : ℕ) (name : List ℕ) (m : Live) (plan : PlanParts) (lost : ℕ) (F : Contents) (c : ℕ) : Type 0 where
  pub each : (t : ℕ) → t < c → t < n → t ≢ lost → (payload : List ℕ) × IsGoodRow n name m F t (chosen_row plan t) payload

-- c is the least survivor whose chunk that the plan takes isn't good, and this is why
pub record IsLeastDamaged (n : ℕ) (name : List ℕ) (m : Live) (plan : PlanParts) (lost : ℕ) (F : Contents) (c r : ℕ) (how : How) : Type 0 where
  pub in_width : c < n
  pub other : c ≢ lost
  pub is_row : r ≡ chosen_row plan c
  pub before : GoodBelow n name m plan lost F c
  pub here : IsBadRow n name m F c r how

-- what stops a repair, by what the clouds hold: the least survivor that doesn't give its chunk decides, whether it failed or not
abbrev pub StopsRepair : ℕ → List ℕ → Live → PlanParts → ℕ → Contents → RepairFault → Type 0
StopsRepair n name m plan lost F (fault.Damaged c r how) = IsLeastDamaged n name m plan lost F c r how
StopsRepair n name m plan lost F (fault.Cloud c) = GoodBelow n name m plan lost F c
StopsRepair n name m plan lost F fault.Worn = IsWornOut m
StopsRepair n name m plan lost F fault.Memory = Unit {0}

-- why a repair wasn't done, by the counts of failures: where a chunk wasn't good, neither its cloud nor a lower one failed
abbrev pub HasRepairCause : Type 0 → (ℕ → ℕ) → (ℕ → ℕ) → RepairFault → Type 0
HasRepairCause exact before now (fault.Cloud c) = IsFirstToRise exact before now c
HasRepairCause exact before now (fault.Damaged c r how) = exact → (d : ℕ) → d ≤ c → now d ≡ before d
HasRepairCause exact before now fault.Worn = Unit {0}
HasRepairCause exact before now fault.Memory = Unit {0}

-- of whichever file stood at H by this metadata, all clouds hold the metadata of its repair at K, and cloud i both chunks right
pub record RightAgain (n : ℕ) (name : List ℕ) (m : Live) (i : ℕ) (good : GoodParts) (H K : Contents) : Type 0 where
  pub each : (D : Clouds) (v : List ℕ) → IsValid n (Stored m v) → PlacesStand n H D name (Stored m v) → AllHold n K name (Stored (mended_meta n i m good v) v) × RightOn n K name (Stored (mended_meta n i m good v) v) i

-- the name is settled on the repair of cloud i: the metadata names the new chunks, whatever they are
pub record IsMendedTop (i : ℕ) (old : Live) (good : GoodParts) (top : Option Meta) : Type 0 where
  pub zero : List ℕ
  pub one : List ℕ
  pub is : top ≡ Some (meta.Live (mended_by i old good zero one))

-- the metadata is that of a file, and by it cloud c is good
abbrev pub IsGoodBy : ℕ → List ℕ → Contents → ℕ → Option Meta → Type 0
IsGoodBy n name F c None = ⊥
IsGoodBy n name F c (Some (meta.Live m)) = IsGoodCloud n name m F c
IsGoodBy n name F c (Some (meta.Gone generation)) = ⊥

-- where a chunk wasn't good, this holds
abbrev pub IfDamaged : Type 0 → RepairFault → Type 0
IfDamaged P (fault.Damaged c r how) = P
IfDamaged P (fault.Cloud c) = Unit {0}
IfDamaged P fault.Worn = Unit {0}
IfDamaged P fault.Memory = Unit {0}
