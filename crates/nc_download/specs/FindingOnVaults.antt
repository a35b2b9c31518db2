-- What is found on contents that stand, while the clouds of X failed.
use Rattle.std.specs.Prelude.{ℕ, ◌≡◌, ◌≢◌, ◌<◌, ◌≤◌, true, List, Result, Ok, Err}
use Rattle.nc_meta.specs.declared.meta.Live.{Live}
use Rattle.nc_state.specs.Clouds.{Clouds, count_of}
use Rattle.nc_state.specs.Right.{PlacesStand}
use Rattle.nc_state.specs.Showing.{AreBearable, ReadsAs}
use Rattle.nc_state.specs.Vaults.{Vault}
use Rattle.nc_state.specs.Versions.{IsValidFor, Version}
use Rattle.nc_state.specs.Versions.Version.{Stored}
use Rattle.nc_download.specs.declared.fault.FetchFault.{FetchFault}
use Rattle.nc_download.specs.declared.fault.FetchFault.TheVariants as fault

-- the name shows a file with this metadata, which is valid, and whose chunks stand
pub record IsShownFile (n : ℕ) (V : Vault) (X : Clouds) (name : List ℕ) (m : Live) : Type 0 where
  pub bytes : List ℕ
  pub shown : ReadsAs n V.contents X name (V.entries name) (Stored m bytes)
  pub valid : IsValidFor n m bytes
  pub places : PlacesStand n V.contents V.damaged name (Stored m bytes)

-- the name shows no file
pub record IsShownNone (n : ℕ) (V : Vault) (X : Clouds) (name : List ℕ) : Type 0 where
  pub version : Version
  pub shown : ReadsAs n V.contents X name (V.entries name) version
  pub no_file : (m : Live) (bytes : List ℕ) → version ≢ Stored m bytes

-- cloud c is one of three clouds of X, or more
pub record IsOneOfThree (n : ℕ) (X : Clouds) (c : ℕ) : Type 0 where
  pub in_width : c < n
  pub one : X c ≡ true
  pub three : 3 ≤ count_of n X

-- of n clouds X has all those of P
pub record HasAll (n : ℕ) (P X : Clouds) : Type 0 where
  pub each : (c : ℕ) → c < n → P c ≡ true → X c ≡ true

-- the answer of a finding
abbrev pub LookShows : ℕ → Clouds → List ℕ → Result Live FetchFault → Vault → Type 0
LookShows n X name (Ok m) V = AreBearable n V.damaged X → IsShownFile n V X name m
LookShows n X name (Err fault.NoFile) V = AreBearable n V.damaged X → IsShownNone n V X name
LookShows n X name (Err (fault.Cloud c)) V = IsOneOfThree n X c
LookShows n X name (Err (fault.Conflict g a b)) V = AreBearable n V.damaged X → ⊥
LookShows n X name (Err fault.Memory) V = Unit {0}
LookShows n X name (Err other) V = ⊥
