-- Where settling stopped.
use Rattle.std.proofs.Common.{List, Result, Ok, Err, IfErr}
use Rattle.nc_cloud.specs.declared.fleet.Job.{Job}
use Rattle.nc_cloud.specs.declared.fleet.Fleet.{Ghosts as FleetGhosts}
use Rattle.nc_cloud.specs.declared.deciding.RoundFault.{RoundFault}
use Rattle.nc_cloud.specs.Contents.{Write}
use Rattle.nc_cloud.specs.Deciding.{OnlyLooked, Wrote}
use Rattle.nc_settle.specs.declared.settled.Settled.{Settled}
use Rattle.nc_settle.specs.declared.settled.SettleFault.{SettleFault}
use Rattle.nc_settle.specs.Stops.{RoundStopped, SettleStopped}
use Rattle.nc_settle.specs.Stops.RoundStopped.{answered}
use Rattle.nc_settle.specs.Stops.SettleStopped.{looking}

module _ {A : Type 0} {F : FleetGhosts A} {old new : A} where
  -- a round that was made
  pub round_stopped : {ps : List Write} {ended : List Job} (result : Result (Unit {0}) RoundFault) → Wrote F ps ended old new result → IfErr result (RoundStopped F old new)
  round_stopped (Ok done) wrote = tt
  round_stopped {ps} {ended} (Err answer) wrote = answered ps ended wrote

  -- nothing was written
  pub look_stopped : (result : Result Settled SettleFault) → OnlyLooked F old new → IfErr result (SettleStopped F old new)
  look_stopped (Ok settled) looked = tt
  look_stopped (Err why) looked = looking looked
