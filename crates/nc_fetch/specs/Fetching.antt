-- What a fetch answers, by a view that was had of the name and by what the clouds then gave.
use Rattle.std.specs.Prelude.{ℕ, ◌≡◌, Bool, List, Result, Ok, Err}
use Rattle.nc_code.specs.Codes.{IsMds}
use Rattle.nc_cloud.specs.Deciding.{OnlyLooked}
use Rattle.nc_cloud.specs.declared.fleet.Fleet.{Ghosts as FleetGhosts}
use Rattle.nc_mds.specs.Verdicts.{IsFirstPair}
use Rattle.nc_meta.specs.declared.meta.Live.{Live}
use Rattle.nc_settle.specs.Views.{Places, width_of}
use Rattle.nc_settle.specs.Failing.{NamesFailing}
use Rattle.nc_settle.specs.MetaWrites.{named}
use Rattle.nc_download.specs.declared.short.Bad.{Bad}
use Rattle.nc_download.specs.declared.fault.FetchFault.{FetchFault}
use Rattle.nc_download.specs.declared.fault.FetchFault.TheVariants as fault
use Rattle.nc_download.specs.Finding.{SeenNow}
use Rattle.nc_download.specs.Seeing.{Refuses, Shows}
use Rattle.nc_fetch.specs.declared.parts.PartFault.TheVariants as part
use Rattle.nc_fetch.specs.Parts.{ComesBackFrom, LacksFor}

-- From old to mid the metadata was looked for, and no chunk was read. The file that is shown has an MDS code; no cloud that failed was
-- asked for its chunks.
pub record HasSought {A : Type 0} (F : FleetGhosts A) (name : List ℕ) (old mid : A) (m : Live) (failed : List Bool) : Type 0 where
  pub seen : SeenNow F name old mid (λ v. Shows v m)
  pub names : NamesFailing seen.view (width_of seen.view) failed
  pub mds : IsMds m.code
  pub looked : OnlyLooked F old mid
  pub unread : (c : ℕ) → F.chunk_gets mid c ≡ F.chunk_gets old c

-- the file that was sought came back
pub record ComesBack {A : Type 0} (F : FleetGhosts A) (name : List ℕ) (old new : A) (file : List ℕ) : Type 0 where
  pub meta : Live
  pub mid : A
  pub failed : List Bool
  pub sought : HasSought F name old mid meta failed
  pub comes : ComesBackFrom F name meta mid new (named failed) file

-- it didn't, since too few clouds are good
pub record IsShortOf {A : Type 0} (F : FleetGhosts A) (name : List ℕ) (old new : A) (list : List Bad) : Type 0 where
  pub meta : Live
  pub mid : A
  pub failed : List Bool
  pub sought : HasSought F name old mid meta failed
  pub lacks : LacksFor F name meta mid new (named failed) (part.Short list)

-- the code of the file that a view shows isn't MDS, and a, b is the least pair that shows it
pub record ShowsUnsound (a b : ℕ) (v : Places) : Type 0 where
  pub meta : Live
  pub shown : Shows v meta
  pub kernel : List ℕ
  pub first : IsFirstPair meta.code a b kernel

-- the answer
abbrev pub Fetches : {A : Type 0} → FleetGhosts A → List ℕ → A → A → Result (List ℕ) FetchFault → Type 0
Fetches F name old new (Ok file) = ComesBack F name old new file
Fetches F name old new (Err (fault.Short list)) = IsShortOf F name old new list
Fetches F name old new (Err (fault.Unsound a b)) = SeenNow F name old new (ShowsUnsound a b)
Fetches F name old new (Err fault.Memory) = Unit {0}
Fetches F name old new (Err other) = SeenNow F name old new (λ v. Refuses v other)
