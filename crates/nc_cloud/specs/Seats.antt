-- Clouds in seats, and what a round does at each of them.
use Rattle.std.specs.Prelude.{ℕ, ◌≡◌, ◌≢◌, ◌≤◌, ◌<◌, length, ◌&&◌, if◌then◌else◌, Option, None, Some, Result, Ok, Err, List, map, find, nat_eq, slice_index_or}
use Rattle.nc_cloud.specs.declared.fleet.Ask.{Ask}
use Rattle.nc_cloud.specs.declared.fleet.Job.{Job}
use Rattle.nc_cloud.specs.declared.fleet.Erase.{Erase}
use Rattle.nc_cloud.specs.declared.fleet.Done.{Done}
use Rattle.nc_cloud.specs.declared.fleet.Done.TheVariants as done
use Rattle.nc_cloud.specs.declared.fleet.Answer.{Answer}
use Rattle.nc_cloud.specs.declared.fleet.Answer.TheVariants as answer
use Rattle.nc_cloud.specs.declared.cloud.Got.{Got}
use Rattle.nc_cloud.specs.declared.cloud.Got.TheVariants.{Bytes, Absent, Long}
use Rattle.nc_cloud.specs.declared.cloud.CloudError.{CloudError}
use Rattle.nc_cloud.specs.declared.cloud.CloudError.TheVariants.{Failed, Memory}
use Rattle.nc_cloud.specs.declared.cloud.Cloud.{Ghosts as CloudGhosts}
use Rattle.nc_cloud.specs.declared.seats.Seat.{Seat}
use Rattle.nc_cloud.specs.Contents.{Contents, Store, Write, Rose, Settles, ChangesAt}
use Rattle.nc_cloud.specs.Fleet.{Shows, got_count, is_bytes, is_chunk, is_done, write, erasure}

abbrev pub answer_from : Result Got CloudError → Answer
answer_from (Ok (Bytes bytes)) = answer.Bytes bytes
answer_from (Ok Absent) = answer.Absent
answer_from (Ok Long) = answer.Long
answer_from (Err Failed) = answer.Failed
answer_from (Err Memory) = answer.Memory

abbrev pub done_from : Result (Unit {0}) CloudError → Done
done_from (Ok x) = done.Ok
done_from (Err Failed) = done.Failed
done_from (Err Memory) = done.Memory

-- the ask of a cloud
abbrev pub ask_at : List Ask → ℕ → Option Ask
ask_at asks c = find (λ a. nat_eq a.cloud c) asks

-- the job of a cloud
abbrev pub job_at : List Job → ℕ → Option Job
job_at jobs c = find (λ j. nat_eq j.cloud c) jobs

-- the delete of a cloud
abbrev pub erase_at : List Erase → ℕ → Option Erase
erase_at erases c = find (λ e. nat_eq e.cloud c) erases

abbrev pub clouds_in : {C : Type 0} → List (Seat C) → List C
clouds_in seats = map (λ s. s.cloud) seats

-- an entry with the answer that stands in its cloud's seat
abbrev pub collected_ask : {C : Type 0} → List (Seat C) → Ask → Ask
collected_ask seats a = record a { answer = slice_index_or (map (λ s. s.answer) seats) a.cloud answer.Waiting }

abbrev pub collected_job : {C : Type 0} → List (Seat C) → Job → Job
collected_job seats j = record j { done = slice_index_or (map (λ s. s.done) seats) j.cloud done.Waiting }

abbrev pub collected_erase : {C : Type 0} → List (Seat C) → Erase → Erase
collected_erase seats e = record e { done = slice_index_or (map (λ s. s.done) seats) e.cloud done.Waiting }

-- what clouds hold, and a count of each
abbrev pub contents_at : {C : Type 0} → (C → Store) → List C → Contents
contents_at held clouds = λ c. slice_index_or (map held clouds) c (λ key. None)

abbrev pub count_at : {C : Type 0} → (C → ℕ) → List C → ℕ → ℕ
count_at count clouds = λ c. slice_index_or (map count clouds) c 0

-- what a cloud that served an entry says, beside its answer, of the count of such failures and of its other count
pub record Ended {C A : Type 0} (exactly : Type 0) (count other : C → ℕ) (waiting failure : A) (given : A) (old new : C) : Type 0 where
  pub answered : given ≢ waiting
  pub failed : given ≡ failure → Rose (count old) (count new)
  pub exact : exactly → given ≢ failure → count new ≡ count old
  pub later : count old ≤ count new
  pub others : other new ≡ other old

-- a cloud that served a get, with its answer
pub record DidGet {C : Type 0} (K : CloudGhosts C) (a : Ask) (old new : Seat C) : Type 0 where
  pub told : K.tells → Shows new.answer a.most (K.held old.cloud a.key)
  pub held_stays : K.held new.cloud ≡ K.held old.cloud
  pub ended : Ended K.counts_exactly K.faults K.slips answer.Waiting answer.Failed new.answer old.cloud new.cloud
  pub gets : K.chunk_gets new.cloud ≡ got_count (K.chunk_gets old.cloud) (if is_chunk a.key && is_bytes new.answer then 1 else 0)

-- a cloud that served a put or a delete, with its answer, where sure ones find memory
pub record DidWrite {C : Type 0} (K : CloudGhosts C) (sure : Type 0) (count other : C → ℕ) (p : Write) (old new : Seat C) : Type 0 where
  pub told : K.tells → ChangesAt p.key (Settles (is_done new.done) p.new) (K.held old.cloud) (K.held new.cloud)
  pub ended : Ended K.counts_exactly count other done.Waiting done.Failed new.done old.cloud new.cloud
  pub gets : K.chunk_gets new.cloud ≡ K.chunk_gets old.cloud
  pub found : sure → new.done ≢ done.Memory

-- no put is sure
abbrev pub DidPut : {C : Type 0} → CloudGhosts C → Job → Seat C → Seat C → Type 0
DidPut K j old new = DidWrite K ⊥ K.faults K.slips (write j) old new

abbrev pub DidErase : {C : Type 0} → CloudGhosts C → Erase → Seat C → Seat C → Type 0
DidErase K e old new = DidWrite K K.sure_deletes K.slips K.faults (erasure e) old new

-- a seat after a round: without an entry it stays
abbrev pub Serves : {C X : Type 0} → (X → Seat C → Seat C → Type 0) → Option X → Seat C → Seat C → Type 0
Serves did None old new = new ≡ old
Serves did (Some x) old new = did x old new

-- each seat after a round
pub record AllServed {C : Type 0} (served : ℕ → Seat C → Seat C → Type 0) (old new : List (Seat C)) : Type 0 where
  pub same_length : length new ≡ length old
  pub each : (c : ℕ) (d : Seat C) → c < length old → served c (slice_index_or old c d) (slice_index_or new c d)
