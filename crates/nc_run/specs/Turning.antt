-- How an act of a run went.
use Rattle.std.specs.Prelude.{ℕ, ◌≡◌, Bool, true, Option, List, ◌∷◌, Ok, Err}
use Rattle.nc_stream.specs.declared.failed.Failed.{Failed}
use Rattle.nc_stream.specs.declared.sink.Sink.{Ghosts as SinkGhosts}
use Rattle.nc_cloud.specs.declared.fleet.Fleet.{Ghosts as FleetGhosts}
use Rattle.nc_words.specs.Acts.{Task}
use Rattle.nc_words.specs.Sending.{Sends}
use Rattle.nc_vault.specs.declared.reply.Reply.{Reply}
use Rattle.nc_vault.specs.declared.reply.Reply.TheVariants as reply
use Rattle.nc_vault.specs.Acting.{Acted}
use Rattle.nc_run.specs.declared.ending.Ending.{Ending}
use Rattle.nc_run.specs.declared.status.Status.{Status}
use Rattle.nc_run.specs.declared.turned.Turned.{Turned}
use Rattle.nc_run.specs.declared.turned.Turned.TheVariants.{GoesOn, Cut, Unwritten, Stopped}
use Rattle.nc_run.specs.declared.watching.Watch.{Ghosts as WatchGhosts}
use Rattle.nc_run.specs.Texts.{text_of}
use Rattle.nc_run.specs.Turns.{is_done}

-- the watcher was shown the fleet that an act left, and let the run go on
pub record LetsGoOn {A W : Type 0} (V : WatchGhosts W A) (before now : W) (left : A) : Type 0 where
  pub known : (start : W) (earlier : List A) (last : A) → V.knows start before earlier last → V.knows start now (last ∷ earlier) left

-- the watcher was shown the fleet that an act left, and ended the run
pub record EndsRun {A W : Type 0} (V : WatchGhosts W A) (before now : W) (left : A) : Type 0 where
  pub known : (start : W) (earlier : List A) (last : A) → V.knows start before earlier last → V.knows start now earlier last
  pub why : V.why now left

-- a write of these bytes failed
pub record SendFails {C : Type 0} (K : SinkGhosts C) (bytes : List ℕ) (old new : C) : Type 0 where
  pub fault : Failed
  pub sends : Sends {T = Unit {0}} K bytes old new (Err fault)

-- What became of an act's text and what the watcher saw, by how the act went that was answered so.
abbrev pub Went : {A C W : Type 0} → SinkGhosts C → WatchGhosts W A → Bool → A → C → C → W → W → Reply → Turned → Type 0
Went K V batch left out out_new before now answer GoesOn =
    (is_done answer ≡ true) × LetsGoOn V before now left × Sends {E = Failed} K (text_of batch answer) out out_new (Ok (tt {0}))
Went K V batch left out out_new before now answer Cut = (is_done answer ≡ true) × EndsRun V before now left × (out_new ≡ out)
Went K V batch left out out_new before now answer Unwritten =
    (is_done answer ≡ true) × LetsGoOn V before now left × SendFails K (text_of batch answer) out out_new
Went K V batch left out out_new before now answer (Stopped cause after) =
    (answer ≡ reply.Stopped cause after) × (now ≡ before) × (out_new ≡ out)

-- The task was begun and answered, and went so.
pub record TurnLeaves {A C W : Type 0} (F : FleetGhosts A) (K : SinkGhosts C) (V : WatchGhosts W A) (batch : Bool) (task : Task)
    (old new : A) (out out_new : C) (before now : W) (turned : Turned) : Type 0 where
  pub answer : Reply
  pub acted : Acted F task old new answer
  pub went : Went K V batch new out out_new before now answer turned

-- a run that ended so at an act: the line that is told, and with how many names the act was done
abbrev pub ending_at : Status → Option ℕ → Option ℕ → Ending
ending_at status line after = record { status = status; line = line; after = after }
