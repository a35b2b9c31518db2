-- What the watcher of a run knows.
use Rattle.std.specs.Prelude.{◌≡◌, ◌<◌, ◌≤◌, ◌+◌, List, length}
use Rattle.nc_memory.specs.declared.memory.MemFleet.{MemFleet}
use Rattle.nc_memory.specs.Memory.{log_of}
use Rattle.nc_memory.specs.Moments.{now_of}
use Rattle.nc_memory.specs.Record.{counted}
use Rattle.nc_memory.specs.Rounds.{rounds_in}
use Rattle.nc_drive.specs.declared.limit.Limit.{Limit}

-- It has counted the acts at which it let the run go on, and keeps how long the record was after the last of them; the round was
-- ahead then.
pub record LimitKnows (start now : Limit) (earlier : List MemFleet) (last : MemFleet) : Type 0 where
  pub round : now.round ≡ start.round
  pub counts : now.done ≡ counted (start.done + length earlier)
  pub since : now.since ≡ now_of last
  pub ahead : rounds_in (log_of last) ≤ start.round

abbrev pub limit_knows : Limit → Limit → List MemFleet → MemFleet → Type 0
limit_knows start now earlier last = LimitKnows start now earlier last

-- it ends a run where the record has the round
abbrev pub limit_ends : Limit → MemFleet → Type 0
limit_ends now fleet = now.round < rounds_in (log_of fleet)
