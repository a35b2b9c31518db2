-- What rounds leave of a fleet that tells images, where they are stopped and at their end.
use Rattle.std.specs.Prelude.{ℕ, ◌≤◌, ◌⊎◌}
use Rattle.nc_cloud.specs.Contents.{Contents}
use Rattle.nc_cloud.specs.Time.{Stays}
use Rattle.nc_cloud.specs.declared.fleet.Fleet.{Ghosts as FleetGhosts}

-- The moment doesn't fall, and what was held before stays told.
pub record GoesOn {A : Type 0} (F : FleetGhosts A) (old new : A) : Type 0 where
  pub later : F.now old ≤ F.now new
  pub stays : F.tells_images → Stays (F.now old) (F.past old) (F.past new)

-- A stop from old on leaves contents that have P, or what it could have left before.
pub record Stops {A : Type 0} (F : FleetGhosts A) (old new : A) (P : Contents → Type 0) : Type 0 where
  pub time : GoesOn F old new
  pub each : (t : ℕ) (G : Contents) → t ≤ F.now old → F.image new t G → F.image old t G ⊎ P G

-- What is held then has P, and so does what a stop from old on leaves, or it could have been left before.
pub record Keeps {A : Type 0} (F : FleetGhosts A) (old new : A) (P : Contents → Type 0) : Type 0 where
  pub here : P (F.held new)
  pub stops : Stops F old new P
