-- What a repair did, by its steps.
use Rattle.std.proofs.Common.{◌≡◌, ◌≤◌, ◌+◌, ◌-◌, ◌^◌, ℕ, List, Result, Ok, Err, IfErr, IfOk, map, ◌∙◌, subst, arith}
use Rattle.nc_code.specs.Parts.{PlanParts}
use Rattle.nc_cloud.specs.declared.fleet.Ask.{Ask}
use Rattle.nc_cloud.specs.declared.fleet.Fleet.{Ghosts as FleetGhosts}
use Rattle.nc_cloud.specs.Deciding.{OnlyLooked}
use Rattle.nc_cloud.specs.Fleet.{asked}
use Rattle.nc_cloud.specs.Stopping.{Stops}
use Rattle.nc_fetch.specs.Asking.{AreAnswered}
use Rattle.nc_meta.specs.Parts.{IsGeneration}
use Rattle.nc_meta.specs.declared.meta.Live.{Live}
use Rattle.nc_mix.specs.declared.pieces.Pair.{Pair}
use Rattle.nc_repair.specs.declared.fault.RepairFault.{RepairFault}
use Rattle.nc_repair.specs.Asking.{AreSurvivorAsks}
use Rattle.nc_repair.specs.Giving.{StopsMending}
use Rattle.nc_repair.specs.Remaking.{AskedSurvivors, IsMadeAnew, NotRemade, Remade}
use Rattle.nc_repair.specs.Remaking.NotRemade.{stopped}
use Rattle.nc_repair.specs.Repairing.{IsWornOut}

-- before a generation that can be stored
pub has_next : (m : Live) (next : ℕ) → next ≡ m.generation + 1 → IsGeneration next → IsWornOut m → ⊥
has_next m next more last worn = let high : next ≤ 2 ^ 64 - 2 = last.1 in absurd (omega (arith, more, high, worn))

-- the round of asks, where the width is told by another number
pub asked_by : {A : Type 0} {F : FleetGhosts A} (name : List ℕ) (m : Live) (plan : PlanParts) (lost w : ℕ) (asks answered : List Ask) (old new : A) → w ≡ F.clouds old → AreSurvivorAsks w name m plan lost asks
    → map asked answered ≡ map asked asks → AreAnswered F answered old new → OnlyLooked F old new → Stops F old new (λ G. G ≡ F.held old) → AskedSurvivors F name m plan lost answered old new
asked_by {F = F} name m plan lost w asks answered old new is are entries gave looked stops = record {
  are = subst (λ (n : ℕ). AreSurvivorAsks n name m plan lost answered) is (record { are = entries ∙ are.are });
  answered = gave;
  looked = looked;
  stops = stops;
}

-- the pair is made of what that round gave
pub if_made_anew : {A : Type 0} (F : FleetGhosts A) (name : List ℕ) (m : Live) (plan : PlanParts) (lost w : ℕ) (asks : List Ask) (old new : A) (result : Result Pair RepairFault) → w ≡ F.clouds old
    → AskedSurvivors F name m plan lost asks old new → IfOk result (IsMadeAnew w name m plan lost asks) → IfOk result (Remade F name m plan lost old new)
if_made_anew F name m plan lost w asks old new (Ok pair) is asked made = record { asks = asks; asked = asked; made = subst (λ (n : ℕ). IsMadeAnew n name m plan lost asks pair) is made }
if_made_anew F name m plan lost w asks old new (Err why) is asked made = tt

-- or it isn't
pub if_stopped : {A : Type 0} (F : FleetGhosts A) (name : List ℕ) (m : Live) (plan : PlanParts) (lost w : ℕ) (asks : List Ask) (old new : A) (result : Result Pair RepairFault) → w ≡ F.clouds old
    → AskedSurvivors F name m plan lost asks old new → IfErr result (StopsMending w name m plan lost asks) → IfErr result (NotRemade F name m plan lost old new)
if_stopped F name m plan lost w asks old new (Ok pair) is asked stops = tt
if_stopped F name m plan lost w asks old new (Err why) is asked stops = stopped asks asked (subst (λ (n : ℕ). StopsMending n name m plan lost asks why) is stops)
