-- Where settling stopped.
use Rattle.std.specs.Prelude.{◌≡◌, List, Err}
use Rattle.nc_cloud.specs.declared.fleet.Job.{Job}
use Rattle.nc_cloud.specs.declared.fleet.Fleet.{Ghosts as FleetGhosts}
use Rattle.nc_cloud.specs.declared.deciding.RoundFault.{RoundFault}
use Rattle.nc_cloud.specs.declared.deciding.RoundFault.TheVariants as round
use Rattle.nc_cloud.specs.Contents.{Write}
use Rattle.nc_cloud.specs.Deciding.{OnlyLooked, Wrote}
use Rattle.nc_settle.specs.declared.settled.SettleFault.{SettleFault}
use Rattle.nc_settle.specs.declared.settled.SettleFault.TheVariants as fault

-- A round of writes wasn't Ok: no memory was found for its entries and none was made, or it was answered so. Then the least
-- entry that isn't Ok decided (`Wrote`).
pub data RoundStopped {A : Type 0} (F : FleetGhosts A) (old new : A) (answer : RoundFault) : Type 0 where
  unmade : new ≡ old → answer ≡ round.Memory → RoundStopped F old new answer
  answered : (ps : List Write) (ended : List Job) → Wrote F ps ended old new (Err answer) → RoundStopped F old new answer

-- the fault that tells a round's
abbrev pub fault_of : RoundFault → SettleFault
fault_of (round.Cloud c) = fault.Cloud c
fault_of round.Memory = fault.Memory

-- settling stopped in the look or by what it saw, or in its one round of writes
pub data SettleStopped {A : Type 0} (F : FleetGhosts A) (old new : A) (why : SettleFault) : Type 0 where
  looking : OnlyLooked F old new → SettleStopped F old new why
  writing : (mid : A) (answer : RoundFault) → OnlyLooked F old mid → RoundStopped F mid new answer → why ≡ fault_of answer → SettleStopped F old new why
