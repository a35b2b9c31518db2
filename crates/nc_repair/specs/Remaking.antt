-- What the work on one part of a repair does: the survivors are asked, and the chunks of the lost cloud are made anew of what they gave.
use Rattle.std.specs.Prelude.{ℕ, ◌≡◌, List, length}
use Rattle.nc_code.specs.Codes.{repaired}
use Rattle.nc_code.specs.Parts.{PlanParts}
use Rattle.nc_cloud.specs.declared.fleet.Ask.{Ask}
use Rattle.nc_cloud.specs.declared.fleet.Fleet.{Ghosts as FleetGhosts}
use Rattle.nc_cloud.specs.Contents.{Contents}
use Rattle.nc_cloud.specs.Deciding.{OnlyLooked}
use Rattle.nc_cloud.specs.Stopping.{Stops}
use Rattle.nc_fetch.specs.Asking.{AreAnswered}
use Rattle.nc_meta.specs.declared.meta.Live.{Live}
use Rattle.nc_mix.specs.declared.pieces.Pair.{Pair}
use Rattle.nc_mix.specs.Regenerating.{IsPairOf, IsRegenerated, RepairsFile}
use Rattle.nc_state.specs.Clouds.{Clouds}
use Rattle.nc_state.specs.Right.{PlacesStand}
use Rattle.nc_state.specs.Versions.{IsValid}
use Rattle.nc_state.specs.Versions.Version.{Stored}
use Rattle.nc_repair.specs.declared.fault.RepairFault.{RepairFault}
use Rattle.nc_repair.specs.declared.fault.RepairFault.TheVariants.{Memory}
use Rattle.nc_repair.specs.Asking.{AreSurvivorAsks}
use Rattle.nc_repair.specs.Giving.{GaveChunks, StopsMending}

-- the survivors were asked in one round, each for the chunk that the plan takes from it
pub record AskedSurvivors {A : Type 0} (F : FleetGhosts A) (name : List ℕ) (m : Live) (plan : PlanParts) (lost : ℕ) (asks : List Ask) (old new : A) : Type 0 where
  pub are : AreSurvivorAsks (F.clouds old) name m plan lost asks
  pub answered : AreAnswered F asks old new
  pub looked : OnlyLooked F old new
  pub stops : Stops F old new (λ G. G ≡ F.held old)

-- all survivors gave their chunks, and the pair is made of these; of each file whose chosen chunks they are, it is the pair by the repaired code
pub record IsMadeAnew (n : ℕ) (name : List ℕ) (m : Live) (plan : PlanParts) (lost : ℕ) (asks : List Ask) (pair : Pair) : Type 0 where
  pub chunks : List (List ℕ)
  pub gave : GaveChunks n name m plan lost asks chunks
  pub is : IsRegenerated plan lost chunks pair
  pub of_file : RepairsFile plan lost n chunks pair

-- the survivors were asked, and the pair is made anew of what they gave
pub record Remade {A : Type 0} (F : FleetGhosts A) (name : List ℕ) (m : Live) (plan : PlanParts) (lost : ℕ) (old new : A) (pair : Pair) : Type 0 where
  pub asks : List Ask
  pub asked : AskedSurvivors F name m plan lost asks old new
  pub made : IsMadeAnew (F.clouds old) name m plan lost asks pair

-- Why no pair was made: no memory was found for the asks, and nothing was done; or the survivors were asked, and one gave no chunk or no
-- memory was found.
pub data NotRemade {A : Type 0} (F : FleetGhosts A) (name : List ℕ) (m : Live) (plan : PlanParts) (lost : ℕ) (old new : A) (why : RepairFault) : Type 0 where
  unasked : new ≡ old → why ≡ Memory → NotRemade F name m plan lost old new why
  stopped : (asks : List Ask) → AskedSurvivors F name m plan lost asks old new → StopsMending (F.clouds old) name m plan lost asks why → NotRemade F name m plan lost old new why

-- both chunks have this length
pub record IsPairLong (size : ℕ) (pair : Pair) : Type 0 where
  pub zero : length pair.zero ≡ size
  pub one : length pair.one ≡ size

-- of whichever file stood at H by this metadata, the pair is its chunks on the lost cloud, by the repaired code
pub record RemakesFile (n : ℕ) (name : List ℕ) (m : Live) (plan : PlanParts) (lost : ℕ) (H : Contents) (pair : Pair) : Type 0 where
  pub each : (D : Clouds) (v : List ℕ) → IsValid n (Stored m v) → PlacesStand n H D name (Stored m v) → IsPairOf (repaired m.code lost plan) lost v pair
