-- The striped code: two stripes, each with a sum P and a weighted sum Q, as in RAID-6.
use Rattle.std.specs.Prelude.{ℕ, ◌+◌, ◌-◌, ◌*◌, ◌/◌, ◌%◌, ◌^◌, ◌==◌, nat_lt, List, map, if◌then◌else◌}
use Rattle.std.specs.List.{range_with_len}
use Rattle.nc_code.specs.Parts.{CodeParts}
use Rattle.nc_gf256.specs.Rows.{unit}
use Rattle.nc_gf256.specs.Width.{native_count}

-- the natives 2c + s, each with its weight
abbrev pub stripe : ℕ → (ℕ → ℕ) → ℕ → ℕ
stripe s weight i = if i % 2 == s then weight (i / 2) else 0

-- Entry i of row s of cloud c at width n: native 2c + s is on cloud c, cloud n-2 has the sum of the natives 2c + s,
-- and cloud n-1 the sum of 2^c times native 2c + s. All else is 0.
abbrev pub striped_entry : ℕ → ℕ → ℕ → ℕ → ℕ
striped_entry n c s i =
    if nat_lt i (native_count n)
    then if nat_lt c (n - 2) then unit (2 * c + s) i
    else if c == n - 2 then stripe s (λ d. 1) i
    else if c == n - 1 then stripe s (λ d. 2 ^ d) i
    else 0
    else 0

abbrev pub striped_row : ℕ → ℕ → List ℕ
striped_row n row = map (striped_entry n (row / 2) (row % 2)) (range_with_len 0 16)

unfoldable pub striped_code : ℕ → CodeParts
striped_code n = record { width = n; rows = map (striped_row n) (range_with_len 0 20) }
