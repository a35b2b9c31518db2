-- What a reading shows of a name, while some clouds fail.
use Rattle.std.specs.Prelude.{ℕ, ◌≡◌, ◌<◌, ◌≤◌, ◌⊎◌, ◌||◌, false, Option, None, Some, List}
use Rattle.nc_name.specs.declared.key.Key.{Key}
use Rattle.nc_name.specs.Keys.{name_of}
use Rattle.nc_meta.specs.declared.meta.Meta.{Meta}
use Rattle.nc_meta.specs.Metas.{generation_of}
use Rattle.nc_cloud.specs.Contents.{Contents}
use Rattle.nc_state.specs.Clouds.{Clouds, any_of, count_of}
use Rattle.nc_state.specs.Versions.{Version, IsValid, meta_of}
use Rattle.nc_state.specs.Holding.{Holds, OneMeta}
use Rattle.nc_state.specs.Right.{PlacesStand}
use Rattle.nc_state.specs.Entries.{Entry}
use Rattle.nc_state.specs.Entries.Entry.{Rest, Opened}
use Rattle.nc_state.specs.Weighing.{settled}

-- none of n clouds is one of X
abbrev pub NoneOf : ℕ → Clouds → Type 0
NoneOf n X = any_of n X ≡ false

-- the clouds of D and those of X
abbrev pub together : Clouds → Clouds → Clouds
together D X c = D c || X c

-- the damaged clouds D and the failing ones X are at most two together
abbrev pub AreBearable : ℕ → Clouds → Clouds → Type 0
AreBearable n D X = count_of n (together D X) ≤ 2

-- A reading in which the clouds X failed may show the version z of a name with this entry: of an unfinished step either version,
-- and the settled one where no cloud failed.
abbrev pub ReadsAs : ℕ → Contents → Clouds → List ℕ → Entry → Version → Type 0
ReadsAs n F X name (Rest x) z = z ≡ x
ReadsAs n F X name (Opened x y) z = ((z ≡ x) ⊎ (z ≡ y)) × (NoneOf n X → z ≡ settled n F name (Opened x y))

-- some cloud holds the meta m, and no cloud outside X a higher one
pub record IsTopOutside (n : ℕ) (F : Contents) (X : Clouds) (name : List ℕ) (m : Meta) : Type 0 where
  pub cloud : ℕ
  pub in_width : cloud < n
  pub held : Holds n F name cloud m
  pub highest : (c : ℕ) (k : Meta) → c < n → X c ≡ false → Holds n F name c k → generation_of k ≤ generation_of m

-- no cloud outside X holds a meta
pub record NoneOutside (n : ℕ) (F : Contents) (X : Clouds) (name : List ℕ) : Type 0 where
  pub none : (c : ℕ) (m : Meta) → c < n → X c ≡ false → Holds n F name c m → ⊥

-- What a look saw, in which the clouds X failed: the highest meta, if any. What a cloud gave before it failed counts as seen.
abbrev pub IsSeenTop : ℕ → Contents → Clouds → List ℕ → Option Meta → Type 0
IsSeenTop n F X name None = NoneOutside n F X name
IsSeenTop n F X name (Some m) = IsTopOutside n F X name m

-- It is the meta of a version that the entry shows, which is valid, whose chunks stand, and of which no cloud holds another meta.
pub record IsShown (n : ℕ) (F : Contents) (D X : Clouds) (name : List ℕ) (e : Entry) (top : Option Meta) : Type 0 where
  pub version : Version
  pub shown : ReadsAs n F X name e version
  pub meta : meta_of version ≡ top
  pub valid : IsValid n version
  pub places : PlacesStand n F D name version
  pub one_meta : OneMeta n F name version

-- It is the meta of the version that is settled on, which is valid, whose chunks stand, and of which no cloud holds another meta.
pub record IsSettledTop (n : ℕ) (F : Contents) (D : Clouds) (name : List ℕ) (e : Entry) (top : Option Meta) : Type 0 where
  pub meta : meta_of (settled n F name e) ≡ top
  pub valid : IsValid n (settled n F name e)
  pub places : PlacesStand n F D name (settled n F name e)
  pub one_meta : OneMeta n F name (settled n F name e)

-- no cloud outside X holds an object of the name
pub record UnlistedOutside (n : ℕ) (F : Contents) (X : Clouds) (name : List ℕ) : Type 0 where
  pub none : (c : ℕ) (place : Key) → c < n → X c ≡ false → name_of place ≡ name → F c place ≡ None
