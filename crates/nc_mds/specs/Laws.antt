-- The law of the striped code.
use Rattle.std.specs.Prelude.{ℕ, ◌≤◌}
use Rattle.nc_code.specs.Codes.{IsMds}
use Rattle.nc_code.specs.Striped.{striped_code}

-- with a sum and a weighted sum each stripe stands the loss of any two clouds, as the weights 2^c differ
abbrev pub StripedIsMds : Type 0
StripedIsMds = (n : ℕ) → 4 ≤ n → n ≤ 10 → IsMds (striped_code n)
