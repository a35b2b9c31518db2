-- How plans are read from bytes. The bytes are a function from places.
use Rattle.std.specs.Prelude.{ℕ, ◌+◌, ◌-◌, ◌*◌, ◌%◌, ◌==◌, ◌||◌, Bool, nat_lt, nat_le, List, map, if◌then◌else◌}
use Rattle.std.specs.List.{range_with_len}
use Rattle.nc_code.specs.Parts.{PlanParts}

-- the position of a survivor among the clouds other than the lost one, from 0 on
abbrev pub position_of : ℕ → ℕ → ℕ
position_of lost t = if nat_lt lost t then t - 1 else t

-- a plan for this loss at width n says nothing of cloud t
abbrev pub is_bare : ℕ → ℕ → ℕ → Bool
is_bare n lost t = t == lost || nat_le n t

-- the bytes of a plan at width n: one that says whose choice is turned over, and two factors of each survivor
abbrev pub plan_len : ℕ → ℕ
plan_len n = 1 + 2 * (n - 1)

-- the choice of cloud t: that of the base, turned over for the survivor at the position that byte 0 says, modulo 16
abbrev pub choice_at : ℕ → ℕ → (ℕ → ℕ) → (ℕ → ℕ) → ℕ → ℕ
choice_at n lost base byte t =
    if is_bare n lost t then 0
    else if position_of lost t == byte 0 % 16 then 1 - base t
    else base t

-- the factor of cloud t in the new row r
abbrev pub coef_at : ℕ → ℕ → (ℕ → ℕ) → ℕ → ℕ → ℕ
coef_at n lost byte r t = if is_bare n lost t then 0 else byte (1 + r * (n - 1) + position_of lost t)

abbrev pub coefs_at : ℕ → ℕ → (ℕ → ℕ) → ℕ → List ℕ
coefs_at n lost byte r = map (coef_at n lost byte r) (range_with_len 0 10)

-- the plan for a loss at width n that bytes give with a base, which has 0 or 1 for each cloud
unfoldable pub plan_at : ℕ → ℕ → (ℕ → ℕ) → (ℕ → ℕ) → PlanParts
plan_at n lost base byte = record {
  choice = map (choice_at n lost base byte) (range_with_len 0 10);
  coefs = map (coefs_at n lost byte) (range_with_len 0 2);
}

-- the bytes from a place on
abbrev pub from : ℕ → (ℕ → ℕ) → ℕ → ℕ
from at byte k = byte (at + k)

-- try j of several, one after the other
abbrev pub try_at : ℕ → ℕ → (ℕ → ℕ) → (ℕ → ℕ) → ℕ → PlanParts
try_at n lost base byte j = plan_at n lost base (from (j * plan_len n) byte)
