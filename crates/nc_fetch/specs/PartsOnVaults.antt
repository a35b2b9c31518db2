-- What the reading of a part answers on contents that stand.
use Rattle.std.specs.Prelude.{ℕ, ◌≡◌, List, Result, Ok, Err}
use Rattle.nc_cloud.specs.declared.fleet.Fleet.{Ghosts as FleetGhosts}
use Rattle.nc_meta.specs.declared.meta.Live.{Live}
use Rattle.nc_state.specs.Clouds.{Clouds}
use Rattle.nc_state.specs.Right.{PlacesStand}
use Rattle.nc_state.specs.Showing.{AreBearable}
use Rattle.nc_state.specs.Vaults.{ForEachVault, Vault}
use Rattle.nc_state.specs.Versions.{IsValidFor}
use Rattle.nc_state.specs.Versions.Version.{Stored}
use Rattle.nc_fetch.specs.declared.parts.PartFault.{PartFault}
use Rattle.nc_fetch.specs.declared.parts.PartFault.TheVariants.{Short, Memory}
use Rattle.nc_download.specs.Finding.{HasRisen}
use Rattle.nc_download.specs.FindingOnVaults.{HasAll}

-- these are the bytes of a version that stands by the metadata m
pub record StandsBy (n : ℕ) (V : Vault) (name : List ℕ) (m : Live) (bytes : List ℕ) : Type 0 where
  pub valid : IsValidFor n m bytes
  pub places : PlacesStand n V.contents V.damaged name (Stored m bytes)

-- the part is that version, whichever stands by the metadata; too few clouds serve only where too many are damaged or failing
abbrev pub PartIs : ℕ → Clouds → List ℕ → Live → Result (List ℕ) PartFault → Vault → Type 0
PartIs n X name m (Ok part) V = (bytes : List ℕ) → StandsBy n V name m bytes → part ≡ bytes
PartIs n X name m (Err (Short list)) V = (bytes : List ℕ) → StandsBy n V name m bytes → AreBearable n V.damaged X → ⊥
PartIs n X name m (Err Memory) V = Unit {0}

-- for any set of clouds that has those of P, which had failed before, and those of which a count rose
pub record PartShows {A : Type 0} (F : FleetGhosts A) (name : List ℕ) (m : Live) (P : Clouds) (old new : A) (answer : Result (List ℕ) PartFault) : Type 0 where
  pub each : (X : Clouds) → HasAll (F.clouds old) P X → HasRisen F old new X → ForEachVault (F.clouds old) (F.held old) (PartIs (F.clouds old) X name m answer)
