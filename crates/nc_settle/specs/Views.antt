-- What the clouds hold under the two metadata keys of a name, as it was seen.
use Rattle.std.specs.Prelude.{ℕ, ◌≡◌, ◌≤◌, ◌==◌, List, length, slice_index_or, if◌then◌else◌}
use Rattle.nc_settle.specs.declared.place.Place.{Place}
use Rattle.nc_settle.specs.declared.place.Place.TheVariants.{Absent}

-- the places of slot 0 by cloud, and those of slot 1
pub record Places : Type 0 where
  pub first : List Place
  pub second : List Place

-- the number of clouds
abbrev pub width_of : Places → ℕ
width_of v = length v.first

-- what was seen on a cloud in a slot
abbrev pub place_at : Places → ℕ → ℕ → Place
place_at v c slot = slice_index_or (if slot == 0 then v.first else v.second) c Absent

-- both slots of each cloud were seen, and there are at most ten clouds
pub record HasTwoSlots (v : Places) : Type 0 where
  pub same : length v.second ≡ length v.first
  pub narrow : length v.first ≤ 10
