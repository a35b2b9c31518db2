-- What a fetch answers on contents that stand, while the clouds of X failed.
use Rattle.std.specs.Prelude.{ℕ, List, Result, Ok, Err}
use Rattle.nc_cloud.specs.declared.fleet.Fleet.{Ghosts as FleetGhosts}
use Rattle.nc_meta.specs.declared.meta.Live.{Live}
use Rattle.nc_state.specs.Clouds.{Clouds}
use Rattle.nc_state.specs.Showing.{AreBearable, ReadsAs}
use Rattle.nc_state.specs.Vaults.{ForEachVault, Vault}
use Rattle.nc_state.specs.Versions.Version.{Stored}
use Rattle.nc_download.specs.declared.fault.FetchFault.{FetchFault}
use Rattle.nc_download.specs.declared.fault.FetchFault.TheVariants as fault
use Rattle.nc_download.specs.Finding.{HasRisen}
use Rattle.nc_download.specs.FindingOnVaults.{IsOneOfThree, IsShownNone}

-- the name shows a file with these bytes
pub record IsShownBytes (n : ℕ) (V : Vault) (X : Clouds) (name bytes : List ℕ) : Type 0 where
  pub meta : Live
  pub shown : ReadsAs n V.contents X name (V.entries name) (Stored meta bytes)

-- the answer
abbrev pub FetchShows : ℕ → Clouds → List ℕ → Result (List ℕ) FetchFault → Vault → Type 0
FetchShows n X name (Ok file) V = AreBearable n V.damaged X → IsShownBytes n V X name file
FetchShows n X name (Err fault.NoFile) V = AreBearable n V.damaged X → IsShownNone n V X name
FetchShows n X name (Err (fault.Cloud c)) V = IsOneOfThree n X c
FetchShows n X name (Err (fault.Misplaced c a b)) V = ⊥
FetchShows n X name (Err fault.Memory) V = Unit {0}
FetchShows n X name (Err other) V = AreBearable n V.damaged X → ⊥

-- for any set of clouds that has those of which a count rose
pub record EachFetchShows {A : Type 0} (F : FleetGhosts A) (name : List ℕ) (old new : A) (answer : Result (List ℕ) FetchFault) : Type 0 where
  pub each : (X : Clouds) → HasRisen F old new X → ForEachVault (F.clouds old) (F.held old) (FetchShows (F.clouds old) X name answer)
