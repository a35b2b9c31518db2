-- A memory fleet, and what its rounds do.
use Rattle.std.specs.Prelude.{ℕ, ◌≡◌, ◌+◌, Bool, true, false, None, Result, Err, IsOk, IsSome, List, [], ◌∷◌, ◌++◌, length, map}
use Rattle.nc_name.specs.declared.key.Key.{Key}
use Rattle.nc_cloud.specs.declared.cloud.CloudError.{CloudError}
use Rattle.nc_cloud.specs.declared.cloud.CloudError.TheVariants.{Failed, Memory}
use Rattle.nc_cloud.specs.declared.fleet.Ask.{Ask}
use Rattle.nc_cloud.specs.declared.fleet.Done.{Done}
use Rattle.nc_cloud.specs.declared.fleet.Done.TheVariants.{Memory as NoMemory}
use Rattle.nc_cloud.specs.declared.fleet.Erase.{Erase}
use Rattle.nc_cloud.specs.declared.fleet.Job.{Job}
use Rattle.nc_cloud.specs.Fleet.{erasure, write}
use Rattle.nc_memory.specs.declared.record.Refusal.{Refusal}
use Rattle.nc_memory.specs.declared.record.Look.{Look}
use Rattle.nc_memory.specs.declared.record.Step.{Step}
use Rattle.nc_memory.specs.declared.record.Event.{Event}
use Rattle.nc_memory.specs.declared.record.Event.TheVariants.{Gets, Writes, Listed}
use Rattle.nc_memory.specs.declared.memory.MemFleet.{MemFleet}
use Rattle.nc_cloud.specs.Contents.{Contents, Write, nothing}
use Rattle.nc_memory.specs.Record.{answered_asks, contents_after, counted, end_erase, end_job, ended_by, failures, gifts, look_of, refused_at, slipped, starved_ask, steps_of}

-- what happened to it
abbrev pub log_of : MemFleet → List Event
log_of fleet = fleet.log.events.items

abbrev pub refusals_of : MemFleet → List Refusal
refusals_of fleet = fleet.refusals.items

-- how many entries it has served
abbrev pub entries_of : MemFleet → ℕ
entries_of fleet = fleet.entries

abbrev pub width_of : MemFleet → ℕ
width_of fleet = fleet.width

abbrev pub contents_of : MemFleet → Contents
contents_of fleet = contents_after (log_of fleet) nothing

-- how many gets and puts failed
abbrev pub faults_of : MemFleet → ℕ → ℕ
faults_of fleet c = counted (failures (log_of fleet) c)

-- how many deletes and lists failed
abbrev pub slips_of : MemFleet → ℕ → ℕ
slips_of fleet c = counted (slipped (log_of fleet) c)

-- how many gets of chunks gave bytes
abbrev pub chunk_gets_of : MemFleet → ℕ → ℕ
chunk_gets_of fleet c = counted (gifts (log_of fleet) c)

-- nothing happened
pub record Unchanged (old new : MemFleet) : Type 0 where
  pub log : log_of new ≡ log_of old
  pub refusals : refusals_of new ≡ refusals_of old
  pub entries : entries_of new ≡ entries_of old
  pub width : width_of new ≡ width_of old

-- a round without entries isn't recorded
abbrev pub gets_event : List Look → List Event
gets_event [] = []
gets_event (look ∷ looks) = Gets (look ∷ looks) ∷ []

abbrev pub writes_event : List Step → List Event
writes_event [] = []
writes_event (step ∷ steps) = Writes (step ∷ steps) ∷ []

-- each get is answered by its number, and recorded
pub record Gives (old new : MemFleet) (asks left : List Ask) : Type 0 where
  pub answers : left ≡ answered_asks (refusals_of old) (entries_of old) (log_of old) asks
  pub log : log_of new ≡ log_of old ++ gets_event (map look_of left)
  pub refusals : refusals_of new ≡ refusals_of old
  pub entries : entries_of new ≡ counted (entries_of old + length asks)
  pub width : width_of new ≡ width_of old

-- a round of gets: either no memory was found and nothing happened, or each was served
pub data ServesGets (old new : MemFleet) (asks left : List Ask) : Type 0 where
  starved : left ≡ map starved_ask asks → Unchanged old new → ServesGets old new asks left
  served : Gives old new asks left → ServesGets old new asks left

-- each entry of a round of writes is answered by its number, and recorded
pub record Takes {X : Type 0} (as_write : X → Write) (end : Done → X → X) (old new : MemFleet) (xs left : List X) : Type 0 where
  pub answers : left ≡ ended_by end (refusals_of old) (entries_of old) xs
  pub log : log_of new ≡ log_of old ++ writes_event (steps_of (refusals_of old) (entries_of old) (map as_write xs))
  pub refusals : refusals_of new ≡ refusals_of old
  pub entries : entries_of new ≡ counted (entries_of old + length xs)
  pub width : width_of new ≡ width_of old

-- a round of writes: either no memory was found and nothing happened, or each was served
pub data ServesWrites {X : Type 0} (as_write : X → Write) (end : Done → X → X) (old new : MemFleet) (xs left : List X) : Type 0 where
  starved : left ≡ map (end NoMemory) xs → Unchanged old new → ServesWrites as_write end old new xs left
  served : Takes as_write end old new xs left → ServesWrites as_write end old new xs left

abbrev pub ServesPuts : MemFleet → MemFleet → List Job → List Job → Type 0
ServesPuts = ServesWrites write end_job

abbrev pub ServesDeletes : MemFleet → MemFleet → List Erase → List Erase → Type 0
ServesDeletes = ServesWrites erasure end_erase

-- a list is recorded
pub record TakesList (old new : MemFleet) (cloud : ℕ) (failed : Bool) : Type 0 where
  pub log : log_of new ≡ log_of old ++ Listed cloud failed ∷ []
  pub refusals : refusals_of new ≡ refusals_of old
  pub entries : entries_of new ≡ counted (entries_of old + 1)
  pub width : width_of new ≡ width_of old

-- a list: either no memory was found and nothing happened, or it was refused by its number, or not
pub data ServesList (old new : MemFleet) (cloud : ℕ) (result : Result (List Key) CloudError) : Type 0 where
  starved : result ≡ Err Memory → Unchanged old new → ServesList old new cloud result
  refused : result ≡ Err Failed → IsSome (refused_at (refusals_of old) (entries_of old + 1)) → TakesList old new cloud true
      → ServesList old new cloud result
  listed : IsOk result → refused_at (refusals_of old) (entries_of old + 1) ≡ None → TakesList old new cloud false
      → ServesList old new cloud result
