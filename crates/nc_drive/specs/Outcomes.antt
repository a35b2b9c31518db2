-- What becomes of an event.
use Rattle.std.specs.Prelude.{ℕ, ◌≡◌, ◌<◌, ◌≤◌, ◌+◌, ◌++◌, Option, None, Some, IfSome, List, [], ◌∷◌, length, map, string_bytes}
use Rattle.std.specs.Option.{option_map}
use Rattle.nc_vault.specs.declared.fault.Fault.TheVariants as fault
use Rattle.nc_words.specs.declared.act.Request.{Request}
use Rattle.nc_words.specs.Words.{Asks}
use Rattle.nc_stream.specs.declared.memory.MemSink.{MemSink}
use Rattle.nc_stream.specs.declared.memory.MemSource.{MemSource}
use Rattle.nc_memory.specs.declared.memory.MemFleet.{MemFleet}
use Rattle.nc_memory.specs.declared.record.Damage.{Damage}
use Rattle.nc_memory.specs.declared.record.Event.TheVariants as recorded
use Rattle.nc_memory.specs.declared.record.Torn.{Torn}
use Rattle.nc_memory.specs.Memory.{log_of, width_of}
use Rattle.nc_memory.specs.Moments.{now_of}
use Rattle.nc_memory.specs.Record.{counted}
use Rattle.nc_memory.specs.Rounds.{round_place, rounds_in}
use Rattle.nc_memory.specs.Stops.{cut}
use Rattle.nc_run.specs.declared.status.Status.{Status}
use Rattle.nc_run.specs.declared.status.Status.TheVariants.{Ok, WriteFault, Vault}
use Rattle.nc_run.specs.Ending.{HowEnded, IsRefused}
use Rattle.nc_run.specs.Milling.{Mills}
use Rattle.nc_run.specs.Running.{IsAnswered, Ran, Unbegun, Unread}
use Rattle.nc_run.specs.Sides.{Sides, sides}
use Rattle.nc_run.specs.Standing.{task_in, tasks_of}
use Rattle.nc_run.specs.Turns.{TakesAll, TakesNext, Turn}
use Rattle.nc_history.specs.Histories.{Happening}
use Rattle.nc_history.specs.Histories.Happening.{Lost, Ran as Acts}
use Rattle.nc_drive.specs.declared.event.Event.{Event}
use Rattle.nc_drive.specs.declared.event.Event.TheVariants.{Run, Stop, Lose}
use Rattle.nc_drive.specs.declared.outcome.Outcome.{Outcome}
use Rattle.nc_drive.specs.Fleets.{clouds, input, left_of, output, written_to}

-- ---- a run

-- no act was begun
pub record NoActs (done : List (Turn MemFleet)) (next : Option (Turn MemFleet)) : Type 0 where
  pub none : done ≡ []
  pub none_next : next ≡ None

-- The words were refused, memory ran out while they were read, their input wasn't read, a mill was done, or what they ask for was:
-- these acts, and the next one wasn't, or the run was let go no further after it.
pub data GoesBy (words : List (List ℕ)) (old new : Sides MemFleet MemSource MemSink) (result : Option HowEnded)
    (done : List (Turn MemFleet)) (next : Option (Turn MemFleet)) : Type 0 where
  was_refused : (e : HowEnded) → result ≡ Some e → IsRefused e.status → NoActs done next → GoesBy words old new result done next
  was_unbegun : (e : HowEnded) → result ≡ Some e → e.status ≡ Vault fault.Memory → Unbegun old new e → NoActs done next
      → GoesBy words old new result done next
  not_read : (request : Request) → Asks (width_of old.fleet) words request → Unread input request.command old new result
      → NoActs done next → GoesBy words old new result done next
  was_milled : (request : Request) → Asks (width_of old.fleet) words request → Mills clouds output request old new result
      → NoActs done next → GoesBy words old new result done next
  was_run : (request : Request) → Asks (width_of old.fleet) words request
      → (ran : Ran clouds input output request old new result)
      → done ≡ ran.course.done → next ≡ ran.course.next → GoesBy words old new result done next

-- its status, where it has one
abbrev pub status_in : Option HowEnded → Option Status
status_in ending = option_map (λ e. e.status) ending

-- A run of these words with this input, whose output didn't fail, printed this and ended so: with a status, or let go no further, with
-- none. These acts were answered Ok, and the next one came after them.
pub record Runs (words : List (List ℕ)) (given : List ℕ) (old new : MemFleet) (result : Option Status) (out : List ℕ)
    (done : List (Turn MemFleet)) (next : Option (Turn MemFleet)) : Type 0 where
  pub source : MemSource
  pub read : MemSource
  pub sink : MemSink
  pub filled : MemSink
  pub unread : left_of source ≡ given
  pub unwritten : written_to sink ≡ []
  pub answered : IfSome result (IsAnswered clouds input output words
      (sides old source sink) (sides new read filled))
  pub ending : Option HowEnded
  pub is : status_in ending ≡ result
  pub goes : GoesBy words (sides old source sink) (sides new read filled) ending done next
  pub printed : written_to filled ≡ out
  pub complete : result ≡ Some WriteFault → ⊥

-- what happened by acts that were done, and the next one, which was begun
abbrev pub acts : List (Turn MemFleet) → Option (Turn MemFleet) → Happening
acts done next = Acts (tasks_of done) (task_in next)

-- it is told as it ended
pub record RunBecame (words : List (List ℕ)) (given : List ℕ) (old new : MemFleet) (o : Outcome) (h : Happening) : Type 0 where
  pub done : List (Turn MemFleet)
  pub next : Option (Turn MemFleet)
  pub runs : Runs words given old new (Some o.status) o.out done next
  pub counts : o.done ≡ counted (length done)
  pub happens : h ≡ acts done next

-- ---- a stop

-- where the round of this number stands in the record of a run, counted from its start
abbrev pub place_in : MemFleet → MemFleet → ℕ → ℕ
place_in old ran round = round_place (log_of ran) (rounds_in (log_of old) + round)

-- A run went to its end, or was let go no further after the act under way in that round, and its fleet is left as a stop in the
-- round leaves it. These acts were answered Ok before the round began, and the next one was under way in it.
pub record IsStopped (words : List (List ℕ)) (given : List ℕ) (round : ℕ) (fates : List Torn) (old new : MemFleet)
    (done : List (Turn MemFleet)) (next : Option (Turn MemFleet)) : Type 0 where
  pub result : Option Status
  pub out : List ℕ
  pub ended : MemFleet
  pub runs : Runs words given old ended result out done next
  pub middle : MemFleet
  pub takes_all : TakesAll clouds old done middle
  pub takes_next : TakesNext clouds middle next ended
  pub ahead : rounds_in (log_of middle) ≤ rounds_in (log_of old) + round
  pub has_round : rounds_in (log_of old) + round < rounds_in (log_of ended)
  pub before : now_of middle ≤ place_in old ended round
  pub left : log_of new ≡ cut (place_in old ended round) fates (log_of ended)

-- the outcome of what answers nothing
pub record IsQuiet (o : Outcome) : Type 0 where
  pub status : o.status ≡ Ok
  pub out : o.out ≡ []

pub record StopBecame (words : List (List ℕ)) (given : List ℕ) (round : ℕ) (fates : List Torn) (old new : MemFleet) (o : Outcome)
    (h : Happening) : Type 0 where
  pub done : List (Turn MemFleet)
  pub next : Option (Turn MemFleet)
  pub stopped : IsStopped words given round fates old new done next
  pub counts : o.done ≡ counted (length done)
  pub quiet : IsQuiet o
  pub happens : h ≡ acts done next

-- a run without a round of that number isn't stopped
pub data MayStop (words : List (List ℕ)) (given : List ℕ) (round : ℕ) (fates : List Torn) (old new : MemFleet) (o : Outcome)
    (h : Happening) : Type 0 where
  without : rounds_in (log_of new) ≤ rounds_in (log_of old) + round → RunBecame words given old new o h
      → MayStop words given round fates old new o h
  was_stopped : StopBecame words given round fates old new o h → MayStop words given round fates old new o h

-- ---- a loss

pub record LossBecame (cloud : ℕ) (damage : Damage) (old new : MemFleet) (o : Outcome) (h : Happening) : Type 0 where
  pub loses : log_of new ≡ log_of old ++ recorded.Lost cloud damage ∷ []
  pub none : o.done ≡ 0
  pub quiet : IsQuiet o
  pub happens : h ≡ Lost cloud

-- ---- any event

-- what became of an event, and what happened by it
abbrev pub Became : Event → MemFleet → MemFleet → Outcome → Happening → Type 0
Became (Run words given) old new o h = RunBecame (map string_bytes words) given old new o h
Became (Stop words given round fates) old new o h = MayStop (map string_bytes words) given round fates old new o h
Became (Lose cloud damage) old new o h = LossBecame cloud damage old new o h
