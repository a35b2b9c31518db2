-- The law of repair.
use Rattle.std.specs.Prelude.{ℕ, ◌≡◌}
use Rattle.nc_code.specs.Parts.{CodeParts, PlanParts, IsPlan}
use Rattle.nc_code.specs.Codes.{repaired}

-- repairing twice by one plan gives what repairing once gives: a plan reads no row of the lost cloud
abbrev pub RepairedTwice : Type 0
RepairedTwice =
    (code : CodeParts) (lost : ℕ) (plan : PlanParts) → IsPlan plan → repaired (repaired code lost plan) lost plan ≡ repaired code lost plan
