-- Views in which clouds failed.
use Rattle.std.specs.Prelude.{ℕ, ◌≡◌, ◌<◌, ◌≤◌, ◌||◌, Bool, true, false, List, length}
use Rattle.nc_state.specs.Clouds.{Clouds, count_of}
use Rattle.nc_settle.specs.declared.place.Place.{Place}
use Rattle.nc_settle.specs.declared.place.Place.TheVariants.{Absent, Broken, Misplaced, Failed, Sealed}
use Rattle.nc_settle.specs.Views.{Places, place_at, width_of}
use Rattle.nc_settle.specs.Decisions.{IsLeastFailed}
use Rattle.nc_settle.specs.MetaWrites.{named}

abbrev pub is_failed_place : Place → Bool
is_failed_place Absent = false
is_failed_place Broken = false
is_failed_place (Misplaced a b) = false
is_failed_place Failed = true
is_failed_place (Sealed m) = false

-- the clouds of which a place failed
abbrev pub fails : Places → Clouds
fails v c = is_failed_place (place_at v c 0) || is_failed_place (place_at v c 1)

-- at most two clouds did
abbrev pub FewFail : Places → Type 0
FewFail v = count_of (width_of v) (fails v) ≤ 2

-- three clouds did, or more, and this is the least
pub record TooManyFail (v : Places) (c : ℕ) : Type 0 where
  pub many : 3 ≤ count_of (width_of v) (fails v)
  pub least : IsLeastFailed v c

-- of the first k clouds the table names those that failed
pub record NamesFailing (v : Places) (k : ℕ) (table : List Bool) : Type 0 where
  pub long : length table ≡ 10
  pub each : (c : ℕ) → c < k → named table c ≡ fails v c
