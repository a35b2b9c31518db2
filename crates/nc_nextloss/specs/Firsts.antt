-- The first of several tries that is good.
use Rattle.std.specs.Prelude.{ℕ, ◌≡◌, ◌<◌}
use Rattle.nc_code.specs.Parts.{CodeParts, PlanParts}
use Rattle.nc_code.specs.Codes.{IsWitness}
use Rattle.nc_code.specs.Tries.{try_at}

-- i is the least index below count with a property
pub record IsFirst (count : ℕ) (Has : ℕ → Type 0) (i : ℕ) : Type 0 where
  pub below : i < count
  pub here : Has i
  pub none_before : (j : ℕ) → j < i → Has j → ⊥

-- try j for a loss, which bytes give with a base, is a witness
abbrev pub IsGoodTry : CodeParts → ℕ → (ℕ → ℕ) → (ℕ → ℕ) → ℕ → Type 0
IsGoodTry code lost base byte j = IsWitness code lost (try_at code.width lost base byte j)

-- the plan is the first of the tries that is a witness
pub record IsFirstWitness (code : CodeParts) (lost : ℕ) (base byte : ℕ → ℕ) (count : ℕ) (plan : PlanParts) : Type 0 where
  pub index : ℕ
  pub first : IsFirst count (IsGoodTry code lost base byte) index
  pub plan_is : plan ≡ try_at code.width lost base byte index
