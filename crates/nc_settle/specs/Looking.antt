-- What a look tells.
use Rattle.std.specs.Prelude.{ℕ, ◌≡◌, ◌≢◌, ◌<◌, true, false, List, length, slice_index_or}
use Rattle.nc_name.specs.declared.key.Key.TheVariants.{Meta}
use Rattle.nc_cloud.specs.Contents.{Contents, Rose}
use Rattle.nc_state.specs.Clouds.{Clouds}
use Rattle.nc_settle.specs.declared.place.Place.{Place}
use Rattle.nc_settle.specs.declared.place.Place.TheVariants.{Absent, Failed}
use Rattle.nc_settle.specs.Views.{Places, place_at}
use Rattle.nc_settle.specs.Judging.{HasMetaOf, IsPlaceOf}

-- the view is of n clouds
pub record HasWidth (n : ℕ) (v : Places) : Type 0 where
  pub first : length v.first ≡ n
  pub second : length v.second ≡ n

-- each place is as what is held
pub record Sees (n : ℕ) (name : List ℕ) (F : Contents) (v : Places) : Type 0 where
  pub each : (c slot : ℕ) → c < n → slot < 2 → IsPlaceOf n name c slot (F c (Meta name slot)) (place_at v c slot)

-- each meta that was seen is one of this width and of its slot
pub record HasMetas (n : ℕ) (v : Places) : Type 0 where
  pub each : (c slot : ℕ) → c < n → slot < 2 → HasMetaOf n slot (place_at v c slot)

-- each place of a cloud of P counts as failed
pub record SkipsFailed (n : ℕ) (P : Clouds) (v : Places) : Type 0 where
  pub each : (c slot : ℕ) → c < n → slot < 2 → P c ≡ true → place_at v c slot ≡ Failed

-- another cloud with a place that failed has raised its count
pub record OthersRose (n : ℕ) (P : Clouds) (before now : ℕ → ℕ) (v : Places) : Type 0 where
  pub each : (c slot : ℕ) → c < n → slot < 2 → P c ≡ false → place_at v c slot ≡ Failed → Rose (before c) (now c)

-- a cloud with a place that failed has raised its count
pub record FailuresRose (n : ℕ) (before now : ℕ → ℕ) (v : Places) : Type 0 where
  pub each : (c slot : ℕ) → c < n → slot < 2 → place_at v c slot ≡ Failed → Rose (before c) (now c)

-- a cloud with no place that failed has the count that it had
pub record OnlyFailuresRose (before now : ℕ → ℕ) (v : Places) : Type 0 where
  pub each : (c : ℕ) → ((slot : ℕ) → slot < 2 → place_at v c slot ≢ Failed) → now c ≡ before c

-- the places of one slot, by cloud

pub record SeesSlot (n : ℕ) (name : List ℕ) (slot : ℕ) (F : Contents) (places : List Place) : Type 0 where
  pub each : (c : ℕ) → c < n → IsPlaceOf n name c slot (F c (Meta name slot)) (slice_index_or places c Absent)

pub record HasMetasIn (n slot : ℕ) (places : List Place) : Type 0 where
  pub each : (c : ℕ) → c < n → HasMetaOf n slot (slice_index_or places c Absent)

pub record SkipsFailedIn (n : ℕ) (P : Clouds) (places : List Place) : Type 0 where
  pub each : (c : ℕ) → c < n → P c ≡ true → slice_index_or places c Absent ≡ Failed

pub record OthersRoseIn (n : ℕ) (P : Clouds) (before now : ℕ → ℕ) (places : List Place) : Type 0 where
  pub each : (c : ℕ) → c < n → P c ≡ false → slice_index_or places c Absent ≡ Failed → Rose (before c) (now c)

pub record OnlyFailuresRoseIn (before now : ℕ → ℕ) (places : List Place) : Type 0 where
  pub each : (c : ℕ) → slice_index_or places c Absent ≢ Failed → now c ≡ before c
