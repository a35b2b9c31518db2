-- A record up to a stop in one of its rounds.
use Rattle.std.specs.Prelude.{ℕ, zero, suc, ◌≡◌, ◌≤◌, ◌+◌, ◌-◌, Some, List, [], ◌∷◌, take, slice_index_or}
use Rattle.nc_memory.specs.declared.record.Torn.{Torn}
use Rattle.nc_memory.specs.declared.record.Torn.TheVariants.{Old}
use Rattle.nc_memory.specs.declared.record.Step.{Step}
use Rattle.nc_memory.specs.declared.record.Event.{Event}
use Rattle.nc_memory.specs.declared.record.Event.TheVariants.{Gets, Writes, Listed, Planted, Lost}
use Rattle.nc_memory.specs.declared.memory.MemFleet.{MemFleet}
use Rattle.nc_cloud.specs.Time.{Stays}
use Rattle.nc_memory.specs.Record.{counted, failures, gifts, numbered, slipped}
use Rattle.nc_memory.specs.Memory.{chunk_gets_of, contents_of, faults_of, log_of, slips_of}
use Rattle.nc_memory.specs.Moments.{image_of, now_of, past_of}

-- the write of a number, from 1 on, that was stopped in its fate: Old where there is none
abbrev pub stopped_step : List Torn → ℕ → Step → Step
stopped_step fates k s = record s { fate = Some (slice_index_or fates (k - 1) Old) }

-- an event that was stopped, with its entries in these fates
abbrev pub stopped_event : List Torn → Event → Event
stopped_event fates (Gets looks) = Gets looks
stopped_event fates (Writes steps) = Writes (numbered (stopped_step fates) 0 steps)
stopped_event fates (Listed cloud failed) = Listed cloud failed
stopped_event fates (Planted cloud key bytes) = Planted cloud key bytes
stopped_event fates (Lost cloud damage) = Lost cloud damage

-- a record up to a stop in the event that stands there
abbrev pub cut : ℕ → List Torn → List Event → List Event
cut at fates [] = []
cut zero fates (e ∷ log) = stopped_event fates e ∷ []
cut (suc at) fates (e ∷ log) = e ∷ cut at fates log

-- What a stop in the event that stands there leaves of a fleet: what is held then is an image since each moment up to
-- that event, what was told up to it stays, and so do the counts up to it, that event included.
pub record LeavesStopped (at : ℕ) (old new : MemFleet) : Type 0 where
  pub length_is : now_of new ≡ at + 1
  pub image : (t : ℕ) → t ≤ at → image_of old t (contents_of new)
  pub before : Stays at (past_of old) (past_of new)
  pub faults : (c : ℕ) → faults_of new c ≡ counted (failures (take (at + 1) (log_of old)) c)
  pub slips : (c : ℕ) → slips_of new c ≡ counted (slipped (take (at + 1) (log_of old)) c)
  pub gets : (c : ℕ) → chunk_gets_of new c ≡ counted (gifts (take (at + 1) (log_of old)) c)
