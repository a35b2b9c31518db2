-- Codes that were confirmed to be good.
use Rattle.std.specs.Prelude.{ℕ, ◌≡◌, ◌<◌, ◌≤◌, [], slice_index, slice_index_or}
use Rattle.nc_code.specs.Parts.{CodeParts, PlanParts}
use Rattle.nc_code.specs.Codes.{IsWitness, IsBare, no_plan}
use Rattle.nc_code.specs.declared.plan.Witnesses.{Witnesses}

-- a code with a plan for each next loss
pub record GoodParts : Type 0 where
  pub code : CodeParts
  pub witnesses : Witnesses

-- the plan is one that a good code may have for this loss
pub record IsPlanFor (code : CodeParts) (lost : ℕ) (plan : PlanParts) : Type 0 where
  pub witness : lost < code.width → IsWitness code lost plan
  pub bare : lost < code.width → IsBare code.width lost plan
  pub past : code.width ≤ lost → plan ≡ no_plan

-- the plan says nothing of cloud t
pub record IsBlank (plan : PlanParts) (t : ℕ) : Type 0 where
  pub choice : slice_index plan.choice t ≡ 0
  pub first : slice_index (slice_index_or plan.coefs 0 []) t ≡ 0
  pub second : slice_index (slice_index_or plan.coefs 1 []) t ≡ 0
