-- What a name stands for, while n clouds hold F and those of D are damaged.
use Rattle.std.specs.Prelude.{ℕ, ◌≡◌, ◌+◌, ◌<◌, false, List}
use Rattle.nc_cloud.specs.Contents.{Contents}
use Rattle.nc_state.specs.Clouds.{Clouds}
use Rattle.nc_state.specs.Versions.{Version, IsValid, version_generation}
use Rattle.nc_state.specs.Holding.{HeldOutside, HoldsVersion, NoneAbove, OneMeta}
use Rattle.nc_state.specs.Right.{PlacesStand}

-- The name rests at the version: no meta is newer, none contradicts it, and it is complete outside D. At Never there is no meta
-- at all, since generations begin at 1.
pub record Rests (n : ℕ) (F : Contents) (D : Clouds) (name : List ℕ) (x : Version) : Type 0 where
  pub none_above : NoneAbove n F name (version_generation x)
  pub one_meta : OneMeta n F name x
  pub held : HeldOutside n F D name x
  pub valid : IsValid n x
  pub places : PlacesStand n F D name x

-- The name is between x and y, the next version: the metas of x and the chunks of both are complete outside D.
pub record Between (n : ℕ) (F : Contents) (D : Clouds) (name : List ℕ) (x y : Version) : Type 0 where
  pub next : version_generation y ≡ version_generation x + 1
  pub none_above : NoneAbove n F name (version_generation y)
  pub one_new : OneMeta n F name y
  pub one_old : OneMeta n F name x
  pub held : HeldOutside n F D name x
  pub valid_old : IsValid n x
  pub valid_new : IsValid n y
  pub places_old : PlacesStand n F D name x
  pub places_new : PlacesStand n F D name y

-- The same, and it is undecided: some cloud holds the meta of y, and some cloud outside D doesn't.
pub record IsOpen (n : ℕ) (F : Contents) (D : Clouds) (name : List ℕ) (x y : Version) : Type 0 where
  pub between : Between n F D name x y
  pub some_new : (c : ℕ) × (c < n) × HoldsVersion n F name c y
  pub some_not : (c : ℕ) × (c < n) × (D c ≡ false) × (HoldsVersion n F name c y → ⊥)

-- a version at rest, or an unfinished step from one to the next
pub data Entry : Type 0 where
  Rest : Version → Entry
  Opened : Version → Version → Entry

abbrev pub HasEntry : ℕ → Contents → Clouds → List ℕ → Entry → Type 0
HasEntry n F D name (Rest x) = Rests n F D name x
HasEntry n F D name (Opened x y) = IsOpen n F D name x y
