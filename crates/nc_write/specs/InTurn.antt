-- Rounds of writes, one after the other.
use Rattle.std.specs.Prelude.{◌≡◌, List, [], ◌∷◌, Result, Ok, Err}
use Rattle.nc_cloud.specs.declared.fleet.Job.{Job}
use Rattle.nc_cloud.specs.declared.deciding.RoundFault.{RoundFault}
use Rattle.nc_cloud.specs.declared.fleet.Fleet.{Ghosts as FleetGhosts}
use Rattle.nc_cloud.specs.Contents.{Write}
use Rattle.nc_cloud.specs.Deciding.{Wrote}
use Rattle.nc_cloud.specs.Fleet.{writes}
use Rattle.nc_write.specs.declared.sealing.VersionWrites.{VersionWrites}
use Rattle.nc_write.specs.Laying.{FinishesVersion}

-- after a round that was answered so: the rest, where it was Ok; else nothing more, and its answer is that of all
abbrev pub AfterRound : {A : Type 0} → Result (Unit {0}) RoundFault → Type 0 → A → A → Result (Unit {0}) RoundFault → Type 0
AfterRound (Ok done) rest mid new result = rest
AfterRound (Err fault) rest mid new result = (new ≡ mid) × (result ≡ Err fault)

-- the first round, and the rest by its answer
pub record WroteFirst {A : Type 0} (F : FleetGhosts A) (ps : List Write) (rest : A → Type 0) (old new : A) (result : Result (Unit {0}) RoundFault) : Type 0 where
  pub mid : A
  pub ended : List Job
  pub answer : Result (Unit {0}) RoundFault
  pub wrote : Wrote F ps ended old mid answer
  pub then : AfterRound answer (rest mid) mid new result

-- These rounds of writes, one after the other: the first that isn't Ok is the last, and its answer is that of them all.
abbrev pub WroteInTurn : {A : Type 0} → FleetGhosts A → List (List Write) → A → A → Result (Unit {0}) RoundFault → Type 0
WroteInTurn F [] old new result = (new ≡ old) × (result ≡ Ok tt)
WroteInTurn F (ps ∷ rounds) old new result = WroteFirst F ps (λ mid. WroteInTurn F rounds mid new result) old new result

-- the rounds of a version: row 0 and row 1 of its new chunks, and then its metadata
abbrev pub rounds_of : VersionWrites → List (List Write)
rounds_of w = writes w.first.items ∷ writes w.second.items ∷ writes w.metas.items ∷ []

-- The rounds of a version that was laid out, once its frames were finished.
pub record FinishedInTurn {A : Type 0} (F : FleetGhosts A) (laid : VersionWrites) (old new : A) (result : Result (Unit {0}) RoundFault) : Type 0 where
  pub done : VersionWrites
  pub finishes : FinishesVersion laid done
  pub wrote : WroteInTurn F (rounds_of done) old new result
