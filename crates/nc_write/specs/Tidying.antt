-- What tidying deletes, and what it leaves.
use Rattle.std.specs.Prelude.{ℕ, ◌≡◌, ◌-◌, ◌<◌, ◌≤◌, Option, None, Some, List, [], ◌∷◌, Result, Ok, Err, if◌then◌else◌}
use Rattle.nc_name.specs.declared.key.Key.{Key}
use Rattle.nc_name.specs.declared.key.Key.TheVariants as key
use Rattle.nc_name.specs.declared.blob.Memory.{Memory}
use Rattle.nc_meta.specs.declared.meta.Meta.{Meta}
use Rattle.nc_cloud.specs.declared.fleet.Erase.{Erase}
use Rattle.nc_cloud.specs.declared.fleet.Fleet.{Ghosts as FleetGhosts}
use Rattle.nc_cloud.specs.Contents.{Contents, Rose, Write}
use Rattle.nc_cloud.specs.Deciding.{Erased}
use Rattle.nc_cloud.specs.Fleet.{erasures}
use Rattle.nc_cloud.specs.Rounds.{some_row}
use Rattle.nc_state.specs.Clouds.{Clouds}
use Rattle.nc_state.specs.Commands.{RestsAt}
use Rattle.nc_state.specs.Holding.{AllHold, IsSettledOn}
use Rattle.nc_state.specs.Right.{RightOn}
use Rattle.nc_state.specs.Standing.{Entries}
use Rattle.nc_state.specs.Tidy.{counts}
use Rattle.nc_state.specs.Versions.{Version, meta_of}
use Rattle.nc_write.specs.declared.part.Part.{Part}
use Rattle.nc_write.specs.declared.part.Part.TheVariants as part
use Rattle.nc_write.specs.Putting.{slot_after}

-- ---- what is deleted

-- where the object of this part stands on cloud c
abbrev pub part_key : List ℕ → Option Meta → Part → ℕ → Key
part_key name top (part.Metas slot) c = key.Meta name slot
part_key name top (part.Beside row) c = key.Chunk name (slot_after top c) row
part_key name top (part.Named row) c = key.Chunk name (1 - slot_after top c) row

-- its delete, where it doesn't count
abbrev pub erasure_of : List ℕ → Option Meta → Part → ℕ → Option Write
erasure_of name top p c = if counts top c (part_key name top p c) then None else Some (record { cloud = c; key = part_key name top p c; new = None })

abbrev pub erasures_of : ℕ → List ℕ → Option Meta → Part → List Write
erasures_of n name top p = some_row (erasure_of name top p) 0 n

-- the deletes of a part on the first k clouds
pub record AreErasures (name : List ℕ) (top : Option Meta) (p : Part) (k : ℕ) (erases : List Erase) : Type 0 where
  pub are : erasures erases ≡ erasures_of k name top p

-- all parts of a name
abbrev pub all_parts : List Part
all_parts = part.Metas 0 ∷ part.Metas 1 ∷ part.Beside 0 ∷ part.Beside 1 ∷ part.Named 0 ∷ part.Named 1 ∷ []

-- ---- what was done

-- a part was deleted in a round, or no memory was found for it and nothing was done
abbrev pub ErasedPart : {A : Type 0} → FleetGhosts A → List ℕ → Option Meta → Part → A → A → Result (Unit {0}) Memory → Type 0
ErasedPart F name top p old new (Ok done) = Erased F (erasures_of (F.clouds old) name top p) old new
ErasedPart F name top p old new (Err fault) = new ≡ old

-- after a part that ended so: the rest, or nothing more where no memory was found
abbrev pub AfterPart : {A : Type 0} → Result (Unit {0}) Memory → Type 0 → A → A → Result (Unit {0}) Memory → Type 0
AfterPart (Ok done) rest mid new result = rest
AfterPart (Err fault) rest mid new result = (new ≡ mid) × (result ≡ Err fault)

-- the first part, and the rest by its answer
pub record ErasedFirst {A : Type 0} (F : FleetGhosts A) (name : List ℕ) (top : Option Meta) (p : Part) (rest : A → Type 0) (old new : A) (result : Result (Unit {0}) Memory) : Type 0 where
  pub mid : A
  pub answer : Result (Unit {0}) Memory
  pub erased : ErasedPart F name top p old mid answer
  pub after : AfterPart answer (rest mid) mid new result

-- these parts, one after the other
abbrev pub ErasedInTurn : {A : Type 0} → FleetGhosts A → List ℕ → Option Meta → List Part → A → A → Result (Unit {0}) Memory → Type 0
ErasedInTurn F name top [] old new result = (new ≡ old) × (result ≡ Ok tt)
ErasedInTurn F name top (p ∷ parts) old new result = ErasedFirst F name top p (λ mid. ErasedInTurn F name top parts mid new result) old new result

-- ---- what is left

-- What counts stays: from F to G the versions of this metadata lose no rest, no metadata and no right chunk, and what was settled on
-- it still is.
pub record LeavesWhatCounts (n : ℕ) (name : List ℕ) (top : Option Meta) (F G : Contents) : Type 0 where
  pub rests : (S : Entries) (D : Clouds) (x : Version) → meta_of x ≡ top → RestsAt n F S D name x → RestsAt n G S D name x
  pub held : (x : Version) → meta_of x ≡ top → AllHold n F name x → AllHold n G name x
  pub right : (x : Version) (c : ℕ) → meta_of x ≡ top → RightOn n F name x c → RightOn n G name x c
  pub settled : 4 ≤ n → n ≤ 10 → IsSettledOn n F name top → IsSettledOn n G name top

-- no count of failed deletes rose
pub record NoneSlipped {A : Type 0} (F : FleetGhosts A) (old new : A) : Type 0 where
  pub none : (c : ℕ) → c < F.clouds old → Rose (F.slips old c) (F.slips new c) → ⊥
