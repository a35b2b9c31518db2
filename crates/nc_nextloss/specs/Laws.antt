-- The law of the striped code: no plan of repair leaves it MDS.
use Rattle.std.specs.Prelude.{ℕ, ◌<◌, ◌≤◌}
use Rattle.nc_code.specs.Parts.{PlanParts, IsPlan}
use Rattle.nc_code.specs.Codes.{IsWitness}
use Rattle.nc_code.specs.Striped.{striped_code}

-- Two of the survivors give their chunk of one stripe; without them the other stripe is short of a row.
abbrev pub StripedHasNoWitness : Type 0
StripedHasNoWitness = (n lost : ℕ) (plan : PlanParts) → 4 ≤ n → n ≤ 10 → lost < n → IsPlan plan → IsWitness (striped_code n) lost plan → ⊥
