-- What drives over clouds in memory promise.
use Rattle.std.specs.Prelude.{ℕ, ◌≡◌, ◌<◌, List, [], ◌∷◌}
use Rattle.nc_state.specs.Vaults.{IsVault, Vault}
use Rattle.nc_memory.specs.declared.memory.MemFleet.{MemFleet}
use Rattle.nc_memory.specs.Memory.{contents_of, log_of, width_of}
use Rattle.nc_history.specs.Histories.{LosesFew}
use Rattle.nc_drive.specs.declared.event.Event.{Event}
use Rattle.nc_drive.specs.declared.event.Event.TheVariants.{Run, Stop, Lose}
use Rattle.nc_drive.specs.declared.outcome.Outcome.{Outcome}
use Rattle.nc_drive.specs.Marks.{HistoryStands, Kept, Mark, RecordTells, Steps, happenings}
use Rattle.nc_drive.specs.Outcomes.{Became}

-- it can happen to so many clouds
abbrev pub EventFits : ℕ → Event → Type 0
EventFits n (Run words given) = Unit {0}
EventFits n (Stop words given round fates) = Unit {0}
EventFits n (Lose cloud damage) = cloud < n

-- An event became this, by which that happened; the record goes on to the mark of the outcome and tells it there.
pub record Happened (event : Event) (old new : MemFleet) (o : Outcome) (mark : Mark) : Type 0 where
  pub width : width_of new ≡ width_of old
  pub place : mark.place ≡ o.mark
  pub became : Became event old new o mark.happening
  pub steps : Steps (width_of old) mark (log_of old) (log_of new)

-- the same, whatever its mark
pub record Happens (event : Event) (old new : MemFleet) (o : Outcome) : Type 0 where
  pub mark : Mark
  pub happened : Happened event old new o mark

-- one event after the other
abbrev pub HappenedAll : List Event → MemFleet → MemFleet → List Outcome → List Mark → Type 0
HappenedAll [] old new [] [] = new ≡ old
HappenedAll (event ∷ events) old new (o ∷ os) (mark ∷ marks) =
    (mid : MemFleet) × Happened event old mid o mark × HappenedAll events mid new os marks
HappenedAll events old new os marks = ⊥

-- What became of a list of events. From each vault that stood before and bears the losses, the record tells at each mark what
-- happened up to it, and what is held at the end stands for all of it.
pub record Driven (events : List Event) (old new : MemFleet) (outcomes : List Outcome) : Type 0 where
  pub marks : List Mark
  pub exact : HappenedAll events old new outcomes marks
  pub kept : Kept (log_of old) (log_of new)
  pub width : width_of new ≡ width_of old
  pub tells : (V : Vault) → V.contents ≡ contents_of old → IsVault (width_of old) V
      → RecordTells (width_of old) (log_of new) marks V
  pub stands : (V : Vault) → V.contents ≡ contents_of old → IsVault (width_of old) V
      → LosesFew (width_of old) (happenings marks) V.damaged
      → HistoryStands (width_of old) (happenings marks) V (contents_of new)
