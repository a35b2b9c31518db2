-- What a memory fleet records, and what follows of what its clouds hold and how often they failed.
use Rattle.std.specs.Prelude.{ℕ, ◌+◌, ◌-◌, ◌^◌, ◌&&◌, Option, None, Some, List, [], ◌∷◌, length, take, min, nat_eq, nat_le, if◌then◌else◌, find, option_map, unwrap_or, is_some, is_none, IfSome}
use Rattle.nc_name.specs.declared.key.Key.{Key}
use Rattle.nc_frame.specs.Frames.{Whole}
use Rattle.nc_cloud.specs.declared.fleet.Ask.{Ask}
use Rattle.nc_cloud.specs.declared.fleet.Erase.{Erase}
use Rattle.nc_cloud.specs.declared.fleet.Job.{Job}
use Rattle.nc_cloud.specs.declared.fleet.Done.{Done}
use Rattle.nc_cloud.specs.declared.fleet.Done.TheVariants as done
use Rattle.nc_cloud.specs.declared.fleet.Answer.{Answer}
use Rattle.nc_cloud.specs.declared.fleet.Answer.TheVariants.{Bytes, Absent, Long, Failed, Memory}
use Rattle.nc_memory.specs.declared.record.Torn.{Torn}
use Rattle.nc_memory.specs.declared.record.Torn.TheVariants.{Old, New, Gone, Broken}
use Rattle.nc_memory.specs.declared.record.Refusal.{Refusal}
use Rattle.nc_memory.specs.declared.record.Look.{Look}
use Rattle.nc_memory.specs.declared.record.Step.{Step}
use Rattle.nc_memory.specs.declared.record.Damage.{Damage}
use Rattle.nc_memory.specs.declared.record.Event.{Event}
use Rattle.nc_memory.specs.declared.record.Event.TheVariants.{Gets, Writes, Listed, Planted, Lost}
use Rattle.nc_cloud.specs.Contents.{Contents, Write, key_eq}
use Rattle.nc_cloud.specs.Fleet.{is_bytes, is_chunk, is_failed, tally}

-- ---- entries

-- g of each element and its number, where n come before the first
abbrev pub numbered : {A B : Type 0} → (ℕ → A → B) → ℕ → List A → List B
numbered g n [] = []
numbered g n (x ∷ xs) = g (n + 1) x ∷ numbered g (n + 1) xs

-- what the entry of a number fails with: what was given first
abbrev pub refused_at : List Refusal → ℕ → Option Torn
refused_at refusals n = option_map (λ r. r.outcome) (find (λ r. nat_eq r.nth n) refusals)

abbrev pub done_of : Option Torn → Done
done_of None = done.Ok
done_of (Some outcome) = done.Failed

-- the answer to a get of an object
abbrev pub answer_of : Option Torn → ℕ → Option (List ℕ) → Answer
answer_of (Some outcome) most held = Failed
answer_of None most None = Absent
answer_of None most (Some bytes) = if nat_le (length bytes) most then Bytes bytes else Long

-- ---- what is recorded

abbrev pub look_of : Ask → Look
look_of a = record { cloud = a.cloud; failed = is_failed a.answer; gave_chunk = is_chunk a.key && is_bytes a.answer }

abbrev pub step_by : Option Torn → Write → Step
step_by refused p = record { cloud = p.cloud; key = p.key; new = p.new; failed = is_some refused; fate = refused }

abbrev pub step_of : List Refusal → ℕ → Write → Step
step_of refusals k p = step_by (refused_at refusals k) p

-- the writes of a round, where n entries came before it
abbrev pub steps_of : List Refusal → ℕ → List Write → List Step
steps_of refusals n ps = numbered (step_of refusals) n ps

-- what was put in rounds was whole
abbrev pub WholeSteps : List Step → Type 0
WholeSteps [] = Unit {0}
WholeSteps (s ∷ ss) = IfSome s.new Whole × WholeSteps ss

abbrev pub WholeEvent : Event → Type 0
WholeEvent (Gets looks) = Unit {0}
WholeEvent (Writes steps) = WholeSteps steps
WholeEvent (Listed cloud failed) = Unit {0}
WholeEvent (Planted cloud key bytes) = Unit {0}
WholeEvent (Lost cloud damage) = Unit {0}

abbrev pub WholeLog : List Event → Type 0
WholeLog [] = Unit {0}
WholeLog (e ∷ es) = WholeEvent e × WholeLog es

-- ---- what a cloud holds

-- the write of a cloud
abbrev pub step_at : List Step → ℕ → Option Step
step_at steps c = find (λ s. nat_eq s.cloud c) steps

-- these bytes without the last of them
abbrev pub without_last : List ℕ → List ℕ
without_last bytes = take (length bytes - 1) bytes

-- what a broken write leaves: of a put the bytes without the last, and of a delete an empty object where there was one
abbrev pub broken : Option (List ℕ) → Option (List ℕ) → Option (List ℕ)
broken (Some bytes) old = Some (without_last bytes)
broken None old = option_map (λ bytes. []) old

-- what a write leaves of an object
abbrev pub left : Option Torn → Option (List ℕ) → Option (List ℕ) → Option (List ℕ)
left None new old = new
left (Some Old) new old = old
left (Some New) new old = new
left (Some Gone) new old = None
left (Some Broken) new old = broken new old

abbrev pub step_value : Option Step → Key → Option (List ℕ) → Option (List ℕ)
step_value None key old = old
step_value (Some s) key old = if key_eq s.key key then left s.fate s.new old else old

-- how a loss leaves the object of a key: by the first fate that was given for it, else as the rest
abbrev pub fate_in : Damage → Key → Torn
fate_in damage key = unwrap_or (option_map (λ f. f.fate) (find (λ f. key_eq f.key key) damage.except)) damage.rest

-- what a loss leaves of an object: of a broken one the bytes without the last
abbrev pub lost : Torn → Option (List ℕ) → Option (List ℕ)
lost Old old = old
lost New old = old
lost Gone old = None
lost Broken old = option_map without_last old

-- what an event makes of what a cloud holds under a key
abbrev pub value_after : Event → ℕ → Key → Option (List ℕ) → Option (List ℕ)
value_after (Gets looks) c key old = old
value_after (Writes steps) c key old = step_value (step_at steps c) key old
value_after (Listed cloud failed) c key old = old
value_after (Planted cloud place bytes) c key old = if nat_eq cloud c && key_eq place key then Some bytes else old
value_after (Lost cloud damage) c key old = if nat_eq cloud c then lost (fate_in damage key) old else old

-- and what several make of it, the first of them first
abbrev pub value : List Event → ℕ → Key → Option (List ℕ) → Option (List ℕ)
value [] c key old = old
value (e ∷ es) c key old = value es c key (value_after e c key old)

-- the contents that these events make of others
abbrev pub contents_after : List Event → Contents → Contents
contents_after es before = λ c key. value es c key (before c key)

-- ---- a round that was served

-- a get with its answer
abbrev pub answered_ask : List Refusal → List Event → ℕ → Ask → Ask
answered_ask refusals log k a = record a { answer = answer_of (refused_at refusals k) a.most (value log a.cloud a.key None) }

-- the gets of a round with their answers, where n entries came before it
abbrev pub answered_asks : List Refusal → ℕ → List Event → List Ask → List Ask
answered_asks refusals n log asks = numbered (answered_ask refusals log) n asks

-- a put and a delete that ended so
abbrev pub end_job : Done → Job → Job
end_job d j = record j { done = d }

abbrev pub end_erase : Done → Erase → Erase
end_erase d e = record e { done = d }

-- the entry of a number with its answer
abbrev pub ended_at : {X : Type 0} → (Done → X → X) → List Refusal → ℕ → X → X
ended_at end refusals k x = end (done_of (refused_at refusals k)) x

-- the puts or deletes of a round with their answers, where n entries came before it
abbrev pub ended_by : {X : Type 0} → (Done → X → X) → List Refusal → ℕ → List X → List X
ended_by end refusals n xs = numbered (ended_at end refusals) n xs

-- a get for which no memory was found
abbrev pub starved_ask : Ask → Ask
starved_ask a = record a { answer = Memory }

-- ---- counts

-- a count over events, of a cloud
abbrev pub over : (Event → ℕ → ℕ) → List Event → ℕ → ℕ
over count [] c = 0
over count (e ∷ es) c = count e c + over count es c

-- how many gets and puts of an event failed on a cloud
abbrev pub failed_in : Event → ℕ → ℕ
failed_in (Gets looks) c = tally (λ l. nat_eq l.cloud c && l.failed) looks
failed_in (Writes steps) c = tally (λ s. nat_eq s.cloud c && (s.failed && is_some s.new)) steps
failed_in (Listed cloud failed) c = 0
failed_in (Planted cloud key bytes) c = 0
failed_in (Lost cloud damage) c = 0

abbrev pub failures : List Event → ℕ → ℕ
failures = over failed_in

-- how many deletes and lists of an event failed on a cloud
abbrev pub slipped_in : Event → ℕ → ℕ
slipped_in (Gets looks) c = 0
slipped_in (Writes steps) c = tally (λ s. nat_eq s.cloud c && (s.failed && is_none s.new)) steps
slipped_in (Listed cloud failed) c = if nat_eq cloud c && failed then 1 else 0
slipped_in (Planted cloud key bytes) c = 0
slipped_in (Lost cloud damage) c = 0

abbrev pub slipped : List Event → ℕ → ℕ
slipped = over slipped_in

-- how many gets of an event gave the bytes of a chunk
abbrev pub given_in : Event → ℕ → ℕ
given_in (Gets looks) c = tally (λ l. nat_eq l.cloud c && l.gave_chunk) looks
given_in (Writes steps) c = 0
given_in (Listed cloud failed) c = 0
given_in (Planted cloud key bytes) c = 0
given_in (Lost cloud damage) c = 0

abbrev pub gifts : List Event → ℕ → ℕ
gifts = over given_in

-- a count of 64 bits stays at its end
abbrev pub counted : ℕ → ℕ
counted n = min n (2 ^ 64 - 1)
