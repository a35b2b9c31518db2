-- What the acts of a run leave of a vault.
use Rattle.std.specs.Prelude.{ℕ, ◌≡◌, ◌++◌, Option, None, Some, List, [], ◌∷◌}
use Rattle.nc_cloud.specs.Contents.{Contents}
use Rattle.nc_cloud.specs.Stopping.{Stops}
use Rattle.nc_cloud.specs.declared.fleet.Fleet.{Ghosts as FleetGhosts}
use Rattle.nc_state.specs.Vaults.{Vault}
use Rattle.nc_words.specs.Acts.{Task}
use Rattle.nc_history.specs.Runs.{LeadsTo}
use Rattle.nc_run.specs.Turns.{Turn}

-- ---- tasks

-- what the acts were asked for
abbrev pub tasks_of : {A : Type 0} → List (Turn A) → List Task
tasks_of [] = []
tasks_of (t ∷ ts) = t.task ∷ tasks_of ts

abbrev pub task_in : {A : Type 0} → Option (Turn A) → Option Task
task_in None = None
task_in (Some t) = Some t.task

-- those of the acts that were done, and that of the next one
abbrev pub tasks_in : {A : Type 0} → List (Turn A) → Option (Turn A) → List Task
tasks_in [] None = []
tasks_in [] (Some t) = t.task ∷ []
tasks_in (t ∷ ts) next = t.task ∷ tasks_in ts next

abbrev pub first_of : List Task → Option Task
first_of [] = None
first_of (task ∷ tasks) = Some task

-- contents that a stop of these acts leaves: the first ones were done, and the next one begun
pub record RunImage (n : ℕ) (tasks : List Task) (V : Vault) (G : Contents) : Type 0 where
  pub done : List Task
  pub rest : List Task
  pub are : done ++ rest ≡ tasks
  pub leads : LeadsTo n done (first_of rest) V G

-- From the vault V on, what is held at the end stands for the acts that were done and the next one begun, and each stop leaves a
-- beginning of them.
pub record RunStands {A : Type 0} (F : FleetGhosts A) (n : ℕ) (done : List (Turn A)) (next : Option (Turn A)) (old new : A) (V : Vault) : Type 0 where
  pub end : LeadsTo n (tasks_of done) (task_in next) V (F.held new)
  pub stops : Stops F old new (RunImage n (tasks_in done next) V)
