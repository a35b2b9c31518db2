-- The names that lists of clouds give.
use Rattle.std.specs.Prelude.{ℕ, ◌≡◌, ◌<◌, ◌⊎◌, Bool, true, false, List, All, AllPairs, Contains, IsSome, length, slice_index_or}
use Rattle.std.specs.Cmp.Lexicographic.{slice_cmp}
use Rattle.std.specs.Ordering.{nat_cmp}
use Rattle.std.specs.declared.cmp.Ordering.TheVariants.{Less}
use Rattle.nc_name.specs.declared.key.Key.{Key}
use Rattle.nc_name.specs.Keys.{name_of}
use Rattle.nc_name.specs.Names.{IsName}
use Rattle.nc_cloud.specs.Contents.{Contents, Grows, Rose, Store}
use Rattle.nc_cloud.specs.Stopping.{Stops}
use Rattle.nc_cloud.specs.declared.deciding.RoundFault.{RoundFault}
use Rattle.nc_cloud.specs.declared.deciding.RoundFault.TheVariants.{Cloud, Memory}
use Rattle.nc_cloud.specs.declared.fleet.Fleet.{Ghosts as FleetGhosts}
use Rattle.nc_state.specs.Clouds.{Clouds}

-- the clouds that a table names
abbrev pub named : List Bool → Clouds
named table c = slice_index_or table c false

-- this cloud is the least that a table names
pub record IsFirstMarked (table : List Bool) (cloud : ℕ) : Type 0 where
  pub here : named table cloud ≡ true
  pub before : (c : ℕ) → c < cloud → named table c ≡ false

-- the cloud that is to blame, if one is, is one of n
abbrev pub IsOfCloud : ℕ → RoundFault → Type 0
IsOfCloud n (Cloud c) = c < n
IsOfCloud n Memory = Unit {0}

-- names are sorted by their bytes, each once
abbrev pub AreSortedNames : List (List ℕ) → Type 0
AreSortedNames names = AllPairs (λ a b. slice_cmp nat_cmp a b ≡ Less) names

-- the same names, sorted, each once
pub record SortsNames (names sorted : List (List ℕ)) : Type 0 where
  pub in_order : AreSortedNames sorted
  pub all : (name : List ℕ) → Contains names name → Contains sorted name
  pub only : (name : List ℕ) → Contains sorted name → Contains names name

-- The names of all keys under which some cloud that isn't one of X holds an object, and maybe more that clouds hold.
pub record AreNamesOutside (n : ℕ) (F : Contents) (X : Clouds) (names : List (List ℕ)) : Type 0 where
  pub all : (c : ℕ) (place : Key) → c < n → X c ≡ false → IsSome (F c place) → Contains names (name_of place)
  pub only : (name : List ℕ) → Contains names name → (c : ℕ) × (c < n) × (place : Key) × (name_of place ≡ name) × IsSome (F c place)
  pub sorted : AreSortedNames names

-- the count of each cloud of X rose
pub record HaveRisen (n : ℕ) (before now : ℕ → ℕ) (X : Clouds) : Type 0 where
  pub each : (c : ℕ) → X c ≡ true → (c < n) × Rose (before c) (now c)

-- the count of each other cloud is as it was
pub record StayOutside (before now : ℕ → ℕ) (X : Clouds) : Type 0 where
  pub each : (c : ℕ) → X c ≡ false → now c ≡ before c

-- Clouds were only listed: nothing changed but the counts of failed lists, which didn't fall, and no stop left anything new.
pub record OnlyListed {A : Type 0} (F : FleetGhosts A) (old new : A) : Type 0 where
  pub clouds : F.clouds new ≡ F.clouds old
  pub held : F.held new ≡ F.held old
  pub faults : F.faults new ≡ F.faults old
  pub grows : Grows (F.slips old) (F.slips new)
  pub gets : F.chunk_gets new ≡ F.chunk_gets old
  pub stops : Stops F old new (λ G. G ≡ F.held old)

-- ---- the lists of some clouds

-- the names of what a cloud holds were added to others
pub record AddsNames (held : Store) (old new : List (List ℕ)) : Type 0 where
  pub kept : (name : List ℕ) → Contains old name → Contains new name
  pub all : (place : Key) → IsSome (held place) → Contains new (name_of place)
  pub only : (name : List ℕ) → Contains new name → Contains old name ⊎ ((place : Key) × (name_of place ≡ name) × IsSome (held place))

-- this cloud was listed, which failed or added the names of what it holds
pub record ListsOne {A : Type 0} (F : FleetGhosts A) (cloud : ℕ) (old new : A) (before names : List (List ℕ)) (failed : Bool) : Type 0 where
  pub told : F.tells → failed ≡ false → AddsNames (F.held old cloud) before names
  pub stay : failed ≡ true → names ≡ before
  pub valid : All IsName before → All IsName names
  pub rose : failed ≡ true → Rose (F.slips old cloud) (F.slips new cloud)
  pub exact : F.counts_exactly → (c : ℕ) → (c ≡ cloud → failed ≡ false) → F.slips new c ≡ F.slips old c

-- the names of what the first k clouds hold, but for those of X
pub record NamesBelow (k : ℕ) (F : Contents) (X : Clouds) (names : List (List ℕ)) : Type 0 where
  pub all : (c : ℕ) (place : Key) → c < k → X c ≡ false → IsSome (F c place) → Contains names (name_of place)
  pub only : (name : List ℕ) → Contains names name → (c : ℕ) × (c < k) × (place : Key) × (name_of place ≡ name) × IsSome (F c place)

-- the first k clouds were listed, and the table names those whose lists failed
pub record ListsBelow {A : Type 0} (F : FleetGhosts A) (k : ℕ) (old now : A) (failed : List Bool) (names : List (List ℕ)) : Type 0 where
  pub whole : length failed ≡ 10
  pub told : F.tells → NamesBelow k (F.held old) (named failed) names
  pub valid : All IsName names
  pub rose : HaveRisen k (F.slips old) (F.slips now) (named failed)
  pub exact : F.counts_exactly → StayOutside (F.slips old) (F.slips now) (named failed)
  pub only : OnlyListed F old now
