-- What the acts of a run do, and how it ends.
use Rattle.std.specs.Prelude.{ℕ, ◌≡◌, ◌<◌, ◌+◌, ◌++◌, Bool, true, false, Option, None, Some, List, [], ◌∷◌, length}
use Rattle.std.specs.Io.KnownBytes.{Appends}
use Rattle.nc_name.specs.Counts.{Rose}
use Rattle.nc_stream.specs.declared.sink.Sink.{Ghosts as SinkGhosts}
use Rattle.nc_cloud.specs.declared.fleet.Fleet.{Ghosts as FleetGhosts}
use Rattle.nc_vault.specs.declared.fault.Fault.TheVariants as fault
use Rattle.nc_run.specs.declared.ending.Ending.{Ending}
use Rattle.nc_run.specs.declared.status.Status.{Status}
use Rattle.nc_run.specs.declared.status.Status.TheVariants as st
use Rattle.nc_run.specs.Ending.{after_of, status_of}
use Rattle.nc_run.specs.Items.{Fit, FitsNext, Item, NextAsksNothing, NextIsLine}
use Rattle.nc_run.specs.Texts.{text_of}
use Rattle.nc_run.specs.Turns.{TakesAll, TakesNext, Turn, WasDone, is_done, texts_of}

-- ---- how it ends

-- By the act that wasn't done, if there is one; else nothing is left to do, or the output failed at the last act, or the next line asks
-- for nothing, or memory ran out while it was read.
abbrev pub Ends : {A : Type 0} → ℕ → List Item → List (Turn A) → Option (Turn A) → Status → Type 0
Ends n left done (Some t) status = (is_done t.answer ≡ false) × (status ≡ status_of t.answer)
Ends n left done None st.Ok = left ≡ []
Ends n left done None st.WriteFault = 0 < length done
Ends n left done None (st.BatchLine k) = (k ≡ length done + 1) × NextAsksNothing n left
Ends n left done None (st.Vault fault.Memory) = NextIsLine left
Ends n left done None other = ⊥

-- a line is told of a batch alone
abbrev pub line_in : Bool → ℕ → Option ℕ
line_in false k = None
line_in true k = Some k

-- the line that is told: of a batch that of the act that wasn't done, or whose text couldn't be written
abbrev pub line_of : {A : Type 0} → Option (Turn A) → Status → Bool → List (Turn A) → Option ℕ
line_of (Some t) status batch done = line_in batch (length done + 1)
line_of None st.WriteFault batch done = line_in batch (length done)
line_of None other batch done = None

-- with how many names the act was done that wasn't
abbrev pub after_in : {A : Type 0} → Option (Turn A) → Option ℕ
after_in None = None
after_in (Some t) = after_of t.answer

-- the status, and what is told beside it
pub record EndsWith {A : Type 0} (n : ℕ) (batch : Bool) (left : List Item) (done : List (Turn A)) (next : Option (Turn A)) (e : Ending) : Type 0 where
  pub ends : Ends n left done next e.status
  pub line : e.line ≡ line_of next e.status batch done
  pub after : e.after ≡ after_in next

-- the same, or its watcher ended it at the next act, which was done
abbrev pub EndsIn : {A : Type 0} → ℕ → Bool → List Item → List (Turn A) → Option (Turn A) → Option Ending → Type 0
EndsIn n batch left done next (Some e) = EndsWith n batch left done next e
EndsIn n batch left done (Some t) None = WasDone t
EndsIn n batch left done None None = ⊥

-- ---- what was written

-- a beginning of the last act's text was written, since the output failed; those before it are written
pub record SaysSome {A C : Type 0} (K : SinkGhosts C) (batch : Bool) (done : List (Turn A)) (old new : C) : Type 0 where
  pub early : List (Turn A)
  pub last : Turn A
  pub are : done ≡ early ++ last ∷ []
  pub front : List ℕ
  pub rest : List ℕ
  pub parts : front ++ rest ≡ text_of batch last.answer
  pub wrote : Appends (K.written old) (K.written new) (texts_of batch early ++ front)
  pub failed : Rose (K.faults old) (K.faults new)

-- the texts of the acts that were done
abbrev pub SaysBy : {A C : Type 0} → SinkGhosts C → Bool → List (Turn A) → C → C → Status → Type 0
SaysBy K batch done old new st.WriteFault = SaysSome K batch done old new
SaysBy K batch done old new other = Appends (K.written old) (K.written new) (texts_of batch done)

abbrev pub Says : {A C : Type 0} → SinkGhosts C → Bool → List (Turn A) → C → C → Option Ending → Type 0
Says K batch done old new (Some e) = SaysBy K batch done old new e.status
Says K batch done old new None = Appends (K.written old) (K.written new) (texts_of batch done)

-- ---- all of it

-- The acts of a run: those that were done, one after the other, and perhaps one more, at which it ended.
pub record Course {A C : Type 0} (F : FleetGhosts A) (K : SinkGhosts C) (n : ℕ) (batch : Bool) (items : List Item)
    (old new : A) (out out_new : C) (result : Option Ending) : Type 0 where
  pub done : List (Turn A)
  pub middle : A
  pub next : Option (Turn A)
  pub takes_all : TakesAll F old done middle
  pub takes_next : TakesNext F middle next new
  pub left : List Item
  pub fit : Fit n items done left
  pub fits_next : FitsNext n left next
  pub ends : EndsIn n batch left done next result
  pub says : Says K batch done out out_new result
  pub quiet : done ≡ [] → out_new ≡ out
