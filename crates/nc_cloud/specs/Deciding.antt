-- How a round decides a command.
use Rattle.std.specs.Prelude.{ℕ, ◌≡◌, ◌<◌, List, Bool, true, false, length, slice_index_or, All, AllPairs, Result, IfErr, OnOk}
use Rattle.nc_cloud.specs.declared.fleet.Ask.{Ask}
use Rattle.nc_cloud.specs.declared.fleet.Job.{Job}
use Rattle.nc_cloud.specs.declared.fleet.Done.TheVariants as done
use Rattle.nc_cloud.specs.declared.fleet.Answer.{Answer}
use Rattle.nc_cloud.specs.declared.fleet.Answer.TheVariants as answer
use Rattle.nc_cloud.specs.Contents.{Rose, Grows, Write}
use Rattle.nc_cloud.specs.Fleet.{writes}
use Rattle.nc_cloud.specs.Images.{Image, Written}
use Rattle.nc_cloud.specs.Stopping.{GoesOn, Keeps}
use Rattle.nc_cloud.specs.declared.fleet.Fleet.{Ghosts as FleetGhosts}
use Rattle.nc_cloud.specs.declared.deciding.RoundFault.{RoundFault}
use Rattle.nc_cloud.specs.declared.deciding.RoundFault.TheVariants.{Cloud, Memory}

-- the entries are of clouds below n, in ascending order: at most one for each
pub record AreAscending {A : Type 0} (cloud : A → ℕ) (n : ℕ) (entries : List A) : Type 0 where
  pub below : All (λ a. cloud a < n) entries
  pub rising : AllPairs (λ a b. cloud a < cloud b) entries

-- the entry is to blame for this
abbrev pub BlamesJob : Job → RoundFault → Type 0
BlamesJob job (Cloud c) = (job.done ≡ done.Failed) × (c ≡ job.cloud)
BlamesJob job Memory = job.done ≡ done.Memory

abbrev pub BlamesAsk : Ask → RoundFault → Type 0
BlamesAsk ask (Cloud c) = (ask.answer ≡ answer.Failed) × (c ≡ ask.cloud)
BlamesAsk ask Memory = ask.answer ≡ answer.Memory

-- the answer says something of the object
abbrev pub IsSeen : Answer → Bool
IsSeen (answer.Bytes bytes) = true
IsSeen answer.Absent = true
IsSeen answer.Long = true
IsSeen answer.Waiting = false
IsSeen answer.Failed = false
IsSeen answer.Memory = false

-- the first entry that isn't fine is to blame
pub record IsLeast {A : Type 0} (IsFine : A → Type 0) (Blames : A → RoundFault → Type 0) (entries : List A) (fault : RoundFault) : Type 0 where
  pub at : ℕ
  pub within : at < length entries
  pub before : (k : ℕ) (d : A) → k < at → IsFine (slice_index_or entries k d)
  pub here : (d : A) → Blames (slice_index_or entries at d) fault

-- the answer of a round: Ok where each entry is fine, else what the first that isn't is to blame for
pub record Decides {A : Type 0} (IsFine : A → Type 0) (Blames : A → RoundFault → Type 0) (entries : List A) (result : Result (Unit {0}) RoundFault) : Type 0 where
  pub ok : OnOk result (All IsFine entries)
  pub err : IfErr result (IsLeast IsFine Blames entries)

abbrev pub DecidesAsks : List Ask → Result (Unit {0}) RoundFault → Type 0
DecidesAsks asks result = Decides (λ a. IsSeen a.answer ≡ true) BlamesAsk asks result

abbrev pub DecidesJobs : List Job → Result (Unit {0}) RoundFault → Type 0
DecidesJobs jobs result = Decides (λ j. j.done ≡ done.Ok) BlamesJob jobs result

-- the count of this cloud rose, and where counts are exact, that of no lower one
abbrev pub IsFirstToRise : Type 0 → (ℕ → ℕ) → (ℕ → ℕ) → ℕ → Type 0
IsFirstToRise exact before now c = Rose (before c) (now c) × (exact → (d : ℕ) → d < c → now d ≡ before d)

-- why a round isn't Ok as a whole
abbrev pub HasCause : Type 0 → (ℕ → ℕ) → (ℕ → ℕ) → RoundFault → Type 0
HasCause exact before now (Cloud c) = IsFirstToRise exact before now c
HasCause exact before now Memory = Unit {0}

-- what the answer of one round or several says of the counts of failures
pub record TellsCounts {A : Type 0} (F : FleetGhosts A) (old new : A) {T : Type 0} (result : Result T RoundFault) : Type 0 where
  pub cause : IfErr result (HasCause F.counts_exactly (F.faults old) (F.faults new))
  pub clean : F.counts_exactly → OnOk result ((c : ℕ) → F.faults new c ≡ F.faults old c)

-- the clouds were only looked at: they hold what they held, no count of failures fell, and that of deletes and lists stayed
pub record OnlyLooked {A : Type 0} (F : FleetGhosts A) (old new : A) : Type 0 where
  pub clouds : F.clouds new ≡ F.clouds old
  pub held : F.held new ≡ F.held old
  pub grows : Grows (F.faults old) (F.faults new)
  pub slips : F.slips new ≡ F.slips old

-- a round of these writes: how each ended, what is left, and what the answer says
pub record Wrote {A : Type 0} (F : FleetGhosts A) (ps : List Write) (ended : List Job) (old new : A) (result : Result (Unit {0}) RoundFault) : Type 0 where
  pub entries : writes ended ≡ ps
  pub decides : DecidesJobs ended result
  pub image : F.tells → Image ps (F.held old) (F.held new)
  pub keeps : F.tells → Keeps F old new (Image ps (F.held old))
  pub done : F.tells → OnOk result (Written ps (F.held old) (F.held new))
  pub counts : TellsCounts F old new result
  pub clouds : F.clouds new ≡ F.clouds old
  pub grows : Grows (F.faults old) (F.faults new)
  pub slips : F.slips new ≡ F.slips old
  pub gets : F.chunk_gets new ≡ F.chunk_gets old
  pub time : GoesOn F old new

-- a round of these deletes: what is left, and what the counts say
pub record Erased {A : Type 0} (F : FleetGhosts A) (ps : List Write) (old new : A) : Type 0 where
  pub keeps : F.tells → Keeps F old new (Image ps (F.held old))
  -- where deletes are sure and no count of failed deletes rose, all objects are gone
  pub gone : F.tells → F.sure_deletes → ((c : ℕ) → c < F.clouds old → Rose (F.slips old c) (F.slips new c) → ⊥) → Written ps (F.held old) (F.held new)
  pub clouds : F.clouds new ≡ F.clouds old
  pub faults : F.faults new ≡ F.faults old
  pub grows : Grows (F.slips old) (F.slips new)
  pub gets : F.chunk_gets new ≡ F.chunk_gets old
  pub time : GoesOn F old new
