-- The rounds of a record.
use Rattle.std.specs.Prelude.{ℕ, ◌+◌, ◌-◌, Bool, true, false, ◌&&◌, Option, None, Some, List, [], ◌∷◌, length, nat_eq, if◌then◌else◌, slice_get}
use Rattle.nc_memory.specs.declared.record.Event.{Event}
use Rattle.nc_memory.specs.declared.record.Event.TheVariants.{Gets, Writes, Listed, Planted, Lost}
use Rattle.nc_cloud.specs.Fleet.{tally}

-- a list is no round, and yet an entry
abbrev pub is_round : Event → Bool
is_round (Gets looks) = true
is_round (Writes steps) = true
is_round (Listed cloud failed) = false
is_round (Planted cloud key bytes) = false
is_round (Lost cloud damage) = false

-- how many rounds there were
abbrev pub rounds_in : List Event → ℕ
rounds_in log = tally is_round log

-- where the nth round stands in a record, from 0 on
abbrev pub round_place : List Event → ℕ → ℕ
round_place [] n = 0
round_place (e ∷ es) n = if is_round e && nat_eq n 0 then 0 else round_place es (if is_round e then n - 1 else n) + 1

abbrev pub entries_in : Event → ℕ
entries_in (Gets looks) = length looks
entries_in (Writes steps) = length steps
entries_in (Listed cloud failed) = 1
entries_in (Planted cloud key bytes) = 0
entries_in (Lost cloud damage) = 0

-- how many entries these events have
abbrev pub entries_served : List Event → ℕ
entries_served [] = 0
entries_served (e ∷ es) = entries_in e + entries_served es

abbrev pub entries_of_some : Option Event → ℕ
entries_of_some None = 0
entries_of_some (Some e) = entries_in e

-- how many entries the nth round has
abbrev pub round_entries : List Event → ℕ → ℕ
round_entries log n = entries_of_some (slice_get log (round_place log n))
