-- Rounds of a version that was laid out, and whose frames were finished.
use Rattle.std.proofs.Common.{◌≡◌, ◌∷◌, [], List, Result, Ok, Err, refl, subst}
use Rattle.nc_cloud.specs.declared.fleet.Job.{Job}
use Rattle.nc_cloud.specs.declared.deciding.RoundFault.{RoundFault}
use Rattle.nc_cloud.specs.declared.fleet.Fleet.{Ghosts as FleetGhosts}
use Rattle.nc_cloud.specs.Deciding.{Wrote}
use Rattle.nc_cloud.specs.Fleet.{writes}
use Rattle.nc_write.specs.declared.sealing.VersionWrites.{VersionWrites}
use Rattle.nc_write.specs.InTurn.{FinishedInTurn, WroteInTurn}
use Rattle.nc_write.specs.Laying.{FinishesVersion}

module _ {A : Type 0} (F : FleetGhosts A) where
  module _ (w done : VersionWrites) (finishes : FinishesVersion w done) (old mid : A) (ended : List Job) (answer : Result (Unit {0}) RoundFault) (wrote : Wrote F (writes done.first.items) ended old mid answer) where
    -- a first round that isn't Ok is the last
    pub stops_at_first : (fault : RoundFault) → answer ≡ Err fault → FinishedInTurn F w old mid (Err fault)
    stops_at_first fault is = record {
      done = done;
      finishes = finishes;
      wrote = record { mid = mid; ended = ended; answer = Err fault; wrote = subst (Wrote F (writes done.first.items) ended old mid) is wrote; then = (refl, refl) };
    }

    -- the others follow one that is
    pub goes_on : (new : A) (result : Result (Unit {0}) RoundFault) → answer ≡ Ok tt → WroteInTurn F (writes done.second.items ∷ writes done.metas.items ∷ []) mid new result
        → FinishedInTurn F w old new result
    goes_on new result is later = record {
      done = done;
      finishes = finishes;
      wrote = record { mid = mid; ended = ended; answer = Ok tt; wrote = subst (Wrote F (writes done.first.items) ended old mid) is wrote; then = later };
    }
