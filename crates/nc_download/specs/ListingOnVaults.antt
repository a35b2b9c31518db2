-- What is told of names on contents that stand, for any set of clouds that has those that failed.
use Rattle.std.specs.Prelude.{ℕ, ◌≡◌, ◌<◌, Option, None, Some, List, [], length, slice_index_or}
use Rattle.nc_cloud.specs.declared.fleet.Fleet.{Ghosts as FleetGhosts}
use Rattle.nc_meta.specs.declared.meta.Live.{Live}
use Rattle.nc_state.specs.Clouds.{Clouds}
use Rattle.nc_state.specs.Showing.{AreBearable}
use Rattle.nc_state.specs.Vaults.{ForEachVault, Vault}
use Rattle.nc_download.specs.declared.fault.FetchFault.{FetchFault}
use Rattle.nc_download.specs.declared.fault.FetchFault.TheVariants as fault
use Rattle.nc_download.specs.FindingOnVaults.{HasAll, IsOneOfThree, IsShownFile, IsShownNone}

-- the name shows a file of this length, or none
abbrev pub LenShows : ℕ → Vault → Clouds → List ℕ → Option ℕ → Type 0
LenShows n V X name (Some len) = (m : Live) × IsShownFile n V X name m × (m.len ≡ len)
LenShows n V X name None = IsShownNone n V X name

-- each name does
pub record NamesShow (n : ℕ) (X : Clouds) (names : List (List ℕ)) (lens : List (Option ℕ)) (V : Vault) : Type 0 where
  pub each : (i : ℕ) → i < length names → AreBearable n V.damaged X → LenShows n V X (slice_index_or names i []) (slice_index_or lens i None)

-- while the clouds of Q failed, and any others
pub record AllShow {A : Type 0} (F : FleetGhosts A) (fleet : A) (names : List (List ℕ)) (Q : Clouds) (lens : List (Option ℕ)) : Type 0 where
  pub each : (X : Clouds) → HasAll (F.clouds fleet) Q X → ForEachVault (F.clouds fleet) (F.held fleet) (NamesShow (F.clouds fleet) X names lens)

-- why no lengths are told
abbrev pub ListStops : ℕ → Clouds → FetchFault → Vault → Type 0
ListStops n X (fault.Cloud c) V = IsOneOfThree n X c
ListStops n X (fault.Conflict g a b) V = AreBearable n V.damaged X → ⊥
ListStops n X fault.Memory V = Unit {0}
ListStops n X other V = ⊥

pub record StopsFor {A : Type 0} (F : FleetGhosts A) (fleet : A) (Q : Clouds) (cause : FetchFault) : Type 0 where
  pub each : (X : Clouds) → HasAll (F.clouds fleet) Q X → ForEachVault (F.clouds fleet) (F.held fleet) (ListStops (F.clouds fleet) X cause)
