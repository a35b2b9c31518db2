-- What the survivors gave.
use Rattle.std.specs.Prelude.{ℕ, ◌≡◌, ◌+◌, ◌-◌, ◌<◌, Result, Ok, List, [], ◌∷◌, ◌++◌, length, slice_index_or}
use Rattle.nc_name.specs.declared.blob.Memory.{Memory}
use Rattle.nc_native.specs.Native.{AllLong, chunk_size}
use Rattle.nc_code.specs.Parts.{PlanParts}
use Rattle.nc_cloud.specs.declared.fleet.Answer.{Answer}
use Rattle.nc_cloud.specs.declared.fleet.Answer.TheVariants as answer
use Rattle.nc_cloud.specs.declared.fleet.Ask.{Ask}
use Rattle.nc_meta.specs.declared.meta.Live.{Live}
use Rattle.nc_download.specs.declared.judging.Wanted.{Wanted}
use Rattle.nc_download.specs.declared.short.Why.TheVariants.{Failed, Row}
use Rattle.nc_fetch.specs.declared.founds.Found.{Found}
use Rattle.nc_fetch.specs.declared.founds.Found.TheVariants.{Good, Bad}
use Rattle.nc_fetch.specs.Founds.{GivesBad, GivesGood}
use Rattle.nc_repair.specs.declared.fault.RepairFault.{RepairFault}
use Rattle.nc_repair.specs.declared.fault.RepairFault.TheVariants as fault
use Rattle.nc_repair.specs.Asking.{chosen_of}
use Rattle.nc_mix.specs.Regenerating.{survivor}
use Rattle.nc_repair.specs.Survivors.{chosen_row}

-- a chunk was found good, and its payload was added
pub record AddsGiven (found : Result Found Memory) (old new : List (List ℕ)) : Type 0 where
  pub payload : List ℕ
  pub good : found ≡ Ok (Good payload)
  pub added : new ≡ old ++ payload ∷ []

-- why what was found of cloud t is no chunk
abbrev pub IsFaultBy : ℕ → Result Found Memory → RepairFault → Type 0
IsFaultBy t found (fault.Cloud c) = (found ≡ Ok (Bad Failed)) × (c ≡ t)
IsFaultBy t found (fault.Damaged c r how) = (found ≡ Ok (Bad (Row r how))) × (c ≡ t)
IsFaultBy t found fault.Worn = ⊥
IsFaultBy t found fault.Memory = Unit {0}

-- why the answer gives no chunk of row r: its cloud failed, or the chunk isn't good
abbrev pub IsFaultOf : Wanted → ℕ → Answer → RepairFault → Type 0
IsFaultOf w r a (fault.Cloud c) = (a ≡ answer.Failed) × (c ≡ w.cloud)
IsFaultOf w r a (fault.Damaged c q how) = (c ≡ w.cloud) × (q ≡ r) × GivesBad w a how
IsFaultOf w r a fault.Worn = ⊥
IsFaultOf w r a fault.Memory = Unit {0}

-- the first k survivors gave these chunks
pub record GaveFirst (n : ℕ) (name : List ℕ) (m : Live) (plan : PlanParts) (lost : ℕ) (asks : List Ask) (k : ℕ) (chunks : List (List ℕ)) : Type 0 where
  pub count : length chunks ≡ k
  pub each : (j : ℕ) → j < k → (d : Ask) → GivesGood (chosen_of n name m plan (survivor lost j)) (slice_index_or asks j d).answer (slice_index_or chunks j [])

-- all of them did
pub record GaveChunks (n : ℕ) (name : List ℕ) (m : Live) (plan : PlanParts) (lost : ℕ) (asks : List Ask) (chunks : List (List ℕ)) : Type 0 where
  pub gave : GaveFirst n name m plan lost asks (n - 1) chunks
  pub count : length chunks + 1 ≡ n
  pub long : AllLong (chunk_size m.len n) chunks

-- those before one did, and this is why that one didn't
pub record StopsAt (n : ℕ) (name : List ℕ) (m : Live) (plan : PlanParts) (lost : ℕ) (asks : List Ask) (why : RepairFault) : Type 0 where
  pub at : ℕ
  pub within : at + 1 < n
  pub chunks : List (List ℕ)
  pub before : GaveFirst n name m plan lost asks at chunks
  pub here : (d : Ask) → IsFaultOf (chosen_of n name m plan (survivor lost at)) (chosen_row plan (survivor lost at)) (slice_index_or asks at d).answer why

-- why nothing was made: one survivor gave no chunk, or no memory was found
abbrev pub StopsMending : ℕ → List ℕ → Live → PlanParts → ℕ → List Ask → RepairFault → Type 0
StopsMending n name m plan lost asks (fault.Cloud c) = StopsAt n name m plan lost asks (fault.Cloud c)
StopsMending n name m plan lost asks (fault.Damaged c r how) = StopsAt n name m plan lost asks (fault.Damaged c r how)
StopsMending n name m plan lost asks fault.Worn = ⊥
StopsMending n name m plan lost asks fault.Memory = Unit {0}
