-- How a run ends that is let go on until an act ends behind a round.
use Rattle.std.specs.Prelude.{ℕ, ◌≡◌, ◌<◌, ◌≤◌, Option, None, Some, List, length}
use Rattle.nc_stream.specs.declared.memory.MemSink.{MemSink}
use Rattle.nc_memory.specs.declared.memory.MemFleet.{MemFleet}
use Rattle.nc_memory.specs.Memory.{log_of}
use Rattle.nc_memory.specs.Moments.{now_of}
use Rattle.nc_memory.specs.Record.{counted}
use Rattle.nc_memory.specs.Rounds.{rounds_in}
use Rattle.nc_run.specs.declared.status.Status.{Status}
use Rattle.nc_run.specs.declared.status.Status.TheVariants.{WriteFault}
use Rattle.nc_run.specs.Turns.{TakesAll, TakesNext, Turn}
use Rattle.nc_drive.specs.declared.driving.Ending.{Ending}
use Rattle.nc_drive.specs.declared.limit.Limit.{Limit}
use Rattle.nc_drive.specs.Fleets.{clouds, written_to}
use Rattle.nc_drive.specs.Outcomes.{Runs}

-- the run's status, if it has one, what it printed, and what its watcher keeps
pub record IsEnding (result : Option Status) (sink : MemSink) (limit : Limit) (e : Ending) : Type 0 where
  pub status_is : e.status ≡ result
  pub out : written_to sink ≡ e.out
  pub done : e.done ≡ limit.done
  pub since : e.since ≡ limit.since
  pub complete : result ≡ Some WriteFault → ⊥

-- The acts that were answered Ok were done before the round began; a run without a status was let go no further, since it has begun.
pub record RunsUntil (words : List (List ℕ)) (given : List ℕ) (round : ℕ) (old new : MemFleet) (e : Ending) : Type 0 where
  pub done : List (Turn MemFleet)
  pub next : Option (Turn MemFleet)
  pub runs : Runs words given old new e.status e.out done next
  pub middle : MemFleet
  pub takes_all : TakesAll clouds old done middle
  pub takes_next : TakesNext clouds middle next new
  pub counts : e.done ≡ counted (length done)
  pub since : e.since ≡ now_of middle
  pub ahead : rounds_in (log_of middle) ≤ round
  pub reached : e.status ≡ None → round < rounds_in (log_of new)
