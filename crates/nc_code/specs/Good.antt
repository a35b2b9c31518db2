-- Codes with a witness for each next loss.
use Rattle.std.specs.Prelude.{ℕ, ◌≡◌, ◌<◌, ◌≤◌, slice_index_or}
use Rattle.nc_code.specs.Parts.{CodeParts, PlanParts}
use Rattle.nc_code.specs.Codes.{IsMds, IsWitness, IsBare, no_plan}
use Rattle.nc_code.specs.declared.plan.Witnesses.{Witnesses}

-- the plan for a loss
abbrev pub plan_of : Witnesses → ℕ → PlanParts
plan_of w lost = slice_index_or w.plans lost no_plan

-- The code is MDS, each plan is a witness of its loss, and what isn't stored of the plans is 0.
pub record IsGood (code : CodeParts) (w : Witnesses) : Type 0 where
  pub mds : IsMds code
  pub witness : (lost : ℕ) → lost < code.width → IsWitness code lost (plan_of w lost)
  pub bare : (lost : ℕ) → lost < code.width → IsBare code.width lost (plan_of w lost)
  pub past : (lost : ℕ) → code.width ≤ lost → plan_of w lost ≡ no_plan
