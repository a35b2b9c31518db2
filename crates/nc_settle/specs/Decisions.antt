-- What follows from a view.
use Rattle.std.specs.Prelude.{ℕ, ◌≡◌, ◌≢◌, ◌⊎◌, ◌<◌, ◌≤◌}
use Rattle.nc_meta.specs.declared.meta.Meta.{Meta}
use Rattle.nc_meta.specs.Metas.{generation_of}
use Rattle.nc_settle.specs.declared.place.Place.{Place}
use Rattle.nc_settle.specs.declared.place.Place.TheVariants as place
use Rattle.nc_settle.specs.Views.{Places, place_at, width_of}

-- a place of the cloud failed
pub record HasFailed (v : Places) (c : ℕ) : Type 0 where
  pub slot : ℕ
  pub in_pair : slot < 2
  pub failed : place_at v c slot ≡ place.Failed

-- the least cloud with a place that failed
pub record IsLeastFailed (v : Places) (c : ℕ) : Type 0 where
  pub in_width : c < width_of v
  pub failed : HasFailed v c
  pub before : (d : ℕ) → d < c → HasFailed v d → ⊥

-- no place failed
abbrev pub NoneFailed : Places → Type 0
NoneFailed v = (c : ℕ) → c < width_of v → HasFailed v c → ⊥

-- a place of the cloud has a frame of elsewhere
pub record HasMisplaced (v : Places) (c : ℕ) : Type 0 where
  pub slot : ℕ
  pub said_cloud : ℕ
  pub said_width : ℕ
  pub in_pair : slot < 2
  pub misplaced : place_at v c slot ≡ place.Misplaced said_cloud said_width

-- the frame of elsewhere of a cloud is of cloud a and width b; where both slots have one, slot 0's is told
abbrev pub IsFromElsewhere : Places → ℕ → ℕ → ℕ → Type 0
IsFromElsewhere v c a b =
    (place_at v c 0 ≡ place.Misplaced a b) ⊎ ((place_at v c 1 ≡ place.Misplaced a b) × ((x y : ℕ) → place_at v c 0 ≢ place.Misplaced x y))

-- the least cloud with a frame of elsewhere
pub record IsLeastMisplaced (v : Places) (c a b : ℕ) : Type 0 where
  pub in_width : c < width_of v
  pub from : IsFromElsewhere v c a b
  pub before : (d : ℕ) → d < c → HasMisplaced v d → ⊥

abbrev pub NoneMisplaced : Places → Type 0
NoneMisplaced v = (c : ℕ) → c < width_of v → HasMisplaced v c → ⊥

-- this sealed meta was seen on the cloud
pub record HasSealed (v : Places) (c : ℕ) (m : Meta) : Type 0 where
  pub slot : ℕ
  pub in_pair : slot < 2
  pub sealed : place_at v c slot ≡ place.Sealed m

-- among the first n clouds: a sealed meta of the highest generation, and the least cloud that has one of this generation
pub record IsTopOf (v : Places) (n c : ℕ) (m : Meta) : Type 0 where
  pub in_width : c < n
  pub has : HasSealed v c m
  pub highest : (d : ℕ) (o : Meta) → d < n → HasSealed v d o → generation_of o ≤ generation_of m
  pub least : (d : ℕ) (o : Meta) → d < c → HasSealed v d o → generation_of o < generation_of m

abbrev pub SeesTop : Places → ℕ → Meta → Type 0
SeesTop v c m = IsTopOf v (width_of v) c m

-- none of the first n clouds has a sealed meta
abbrev pub SeesNoneOf : Places → ℕ → Type 0
SeesNoneOf v n = (c : ℕ) (m : Meta) → c < n → HasSealed v c m → ⊥

abbrev pub SeesNone : Places → Type 0
SeesNone v = SeesNoneOf v (width_of v)

-- the cloud has another meta of the same generation
pub record HasOther (v : Places) (c : ℕ) (m : Meta) : Type 0 where
  pub other : Meta
  pub has : HasSealed v c other
  pub same_generation : generation_of other ≡ generation_of m
  pub differs : other ≢ m

-- each meta of the same generation that the cloud has is this one
abbrev pub AgreesOn : Places → ℕ → Meta → Type 0
AgreesOn v c m = (o : Meta) → HasSealed v c o → generation_of o ≡ generation_of m → o ≡ m

-- Metas of the highest generation differ: a is the least cloud that has one, b the least that has another than a's.
pub record IsConflict (v : Places) (generation a b : ℕ) : Type 0 where
  pub meta : Meta
  pub top : SeesTop v a meta
  pub is_generation : generation_of meta ≡ generation
  pub in_width : b < width_of v
  pub other : HasOther v b meta
  pub before : (c : ℕ) → c < b → AgreesOn v c meta

-- there is only one meta of the highest generation
abbrev pub NoConflict : Places → Type 0
NoConflict v = (a c : ℕ) (m : Meta) → SeesTop v a m → c < width_of v → AgreesOn v c m

-- what one place says

abbrev pub DiffersIn : Place → Meta → Type 0
DiffersIn (place.Sealed other) m = (generation_of other ≡ generation_of m) × (other ≢ m)
DiffersIn place.Absent m = ⊥
DiffersIn place.Broken m = ⊥
DiffersIn (place.Misplaced a b) m = ⊥
DiffersIn place.Failed m = ⊥

abbrev pub AgreesIn : Place → Meta → Type 0
AgreesIn p m = (o : Meta) → p ≡ place.Sealed o → generation_of o ≡ generation_of m → o ≡ m
