-- What a finding answers, by a view that was had of the name.
use Rattle.std.specs.Prelude.{ℕ, ◌≡◌, ◌<◌, true, List, Result, Ok, Err}
use Rattle.nc_cloud.specs.Contents.{Rose}
use Rattle.nc_cloud.specs.declared.fleet.Fleet.{Ghosts as FleetGhosts}
use Rattle.nc_meta.specs.declared.meta.Live.{Live}
use Rattle.nc_state.specs.Clouds.{Clouds}
use Rattle.nc_state.specs.Vaults.{ForEachVault}
use Rattle.nc_settle.specs.Views.{Places}
use Rattle.nc_settle.specs.Looking.{HasWidth, Sees, FailuresRose, OnlyFailuresRose}
use Rattle.nc_download.specs.declared.fault.FetchFault.{FetchFault}
use Rattle.nc_download.specs.declared.fault.FetchFault.TheVariants as fault
use Rattle.nc_download.specs.Seeing.{Refuses, Shows}
use Rattle.nc_download.specs.FindingOnVaults.{LookShows}

-- A view was had of the name, and it shows this. It is as what the clouds hold, but for those that failed: their counts rose, and
-- where counts are exact, no others did.
pub record SeenNow {A : Type 0} (F : FleetGhosts A) (name : List ℕ) (old new : A) (shows : Places → Type 0) : Type 0 where
  pub view : Places
  pub width : HasWidth (F.clouds old) view
  pub sees : F.tells → Sees (F.clouds old) name (F.held old) view
  pub rose : FailuresRose (F.clouds old) (F.faults old) (F.faults new) view
  pub only : F.counts_exactly → OnlyFailuresRose (F.faults old) (F.faults new) view
  pub shown : shows view

-- the metadata of the file is what a view shows, or why it shows none
abbrev pub Finds : {A : Type 0} → FleetGhosts A → List ℕ → A → A → Result Live FetchFault → Type 0
Finds F name old new (Ok live) = SeenNow F name old new (λ v. Shows v live)
Finds F name old new (Err fault.Memory) = Unit {0}
Finds F name old new (Err other) = SeenNow F name old new (λ v. Refuses v other)

-- X has all clouds whose count of failures rose
pub record HasRisen {A : Type 0} (F : FleetGhosts A) (old new : A) (X : Clouds) : Type 0 where
  pub each : (c : ℕ) → c < F.clouds old → Rose (F.faults old c) (F.faults new c) → X c ≡ true

-- what is found on contents that stand, for any set of clouds that has those that failed
pub record FindShows {A : Type 0} (F : FleetGhosts A) (name : List ℕ) (old new : A) (answer : Result Live FetchFault) : Type 0 where
  pub each : (X : Clouds) → HasRisen F old new X → ForEachVault (F.clouds old) (F.held old) (LookShows (F.clouds old) X name answer)
