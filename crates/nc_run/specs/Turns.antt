-- The acts of a run, one after the other.
use Rattle.std.specs.Prelude.{ℕ, ◌≡◌, ◌++◌, Bool, true, false, Option, None, Some, List, [], ◌∷◌}
use Rattle.nc_cloud.specs.declared.fleet.Fleet.{Ghosts as FleetGhosts}
use Rattle.nc_words.specs.Acts.{Task}
use Rattle.nc_vault.specs.declared.reply.Reply.{Reply}
use Rattle.nc_vault.specs.declared.reply.Reply.TheVariants as reply
use Rattle.nc_vault.specs.Acting.{Acted}
use Rattle.nc_run.specs.Texts.{text_of}

-- an act of a run: the fleet at its start and at its end, and the reply
pub record Turn (A : Type 0) : Type 0 where
  pub task : Task
  pub before : A
  pub after : A
  pub answer : Reply

-- the act was done
abbrev pub is_done : Reply → Bool
is_done (reply.Stopped cause after) = false
is_done other = true

abbrev pub WasDone : {A : Type 0} → Turn A → Type 0
WasDone t = is_done t.answer ≡ true

-- the turn is what a step says of its act, and goes on from there
pub record Takes {A : Type 0} (F : FleetGhosts A) (old : A) (t : Turn A) : Type 0 where
  pub from_here : t.before ≡ old
  pub acted : Acted F t.task t.before t.after t.answer

-- these acts were done, one after the other, from `old` to `new`
abbrev pub TakesAll : {A : Type 0} → FleetGhosts A → A → List (Turn A) → A → Type 0
TakesAll F old [] new = new ≡ old
TakesAll F old (t ∷ ts) new = Takes F old t × WasDone t × TakesAll F t.after ts new

-- and then another one, or none
abbrev pub TakesNext : {A : Type 0} → FleetGhosts A → A → Option (Turn A) → A → Type 0
TakesNext F old None new = new ≡ old
TakesNext F old (Some t) new = Takes F old t × (new ≡ t.after)

-- what they printed, alone or in a batch
abbrev pub texts_of : {A : Type 0} → Bool → List (Turn A) → List ℕ
texts_of batch [] = []
texts_of batch (t ∷ ts) = text_of batch t.answer ++ texts_of batch ts
