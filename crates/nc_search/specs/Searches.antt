-- The result of a search: the good candidate of the least index below the budget, or none.
use Rattle.std.specs.Prelude.{ℕ, ◌≡◌, ◌<◌, List, Option}
use Rattle.nc_code.specs.Parts.{CodeParts, PlanParts}
use Rattle.nc_nextloss.specs.Firsts.{IsFirst}
use Rattle.nc_nextloss.specs.GoodCodes.{GoodParts}
use Rattle.nc_search.specs.Starts.{start_block, IsGoodStart, IsStartOf}
use Rattle.nc_search.specs.Repairs.{repair_block, repair_plan, IsGoodRepair, IsRepairOf}
use Rattle.nc_search.specs.declared.starting.Start.{Start}
use Rattle.nc_search.specs.declared.starting.Start.TheVariants.{Found, Spent}
use Rattle.nc_search.specs.declared.mending.Mend.{Mend}
use Rattle.nc_search.specs.declared.mending.Mend.TheVariants.{Found as Mended, Spent as Unmended}

-- the candidate of this index is the first good one for a start at width n with this key
pub record IsStart (n : ℕ) (key : List ℕ) (budget index : ℕ) (good : GoodParts) : Type 0 where
  pub first : IsFirst budget (λ i. IsGoodStart n (start_block n key i)) index
  pub gives : IsStartOf n (start_block n key index) good

-- no candidate below the budget is good
pub record NoStart (n : ℕ) (key : List ℕ) (budget : ℕ) : Type 0 where
  pub none : (i : ℕ) → i < budget → IsGoodStart n (start_block n key i) → ⊥

abbrev pub IsStartSearch : ℕ → List ℕ → ℕ → Start → Type 0
IsStartSearch n key budget (Found index good) = IsStart n key budget index good
IsStartSearch n key budget (Spent tried) = (tried ≡ budget) × NoStart n key budget

-- the plan of candidate i of a repair
abbrev pub mend_plan : CodeParts → Option PlanParts → ℕ → List ℕ → ℕ → PlanParts
mend_plan code stored lost key i = repair_plan code.width lost stored i (repair_block code.width key i)

-- candidate i of a repair is good
abbrev pub IsGoodMend : CodeParts → Option PlanParts → ℕ → List ℕ → ℕ → Type 0
IsGoodMend code stored lost key i = IsGoodRepair code lost (mend_plan code stored lost key i) (repair_block code.width key i)

-- the candidate of this index is the first good one for the repair of a lost cloud, with a stored plan or none
pub record IsMend (code : CodeParts) (stored : Option PlanParts) (lost : ℕ) (key : List ℕ) (budget index : ℕ) (plan : PlanParts) (good : GoodParts) : Type 0 where
  pub first : IsFirst budget (IsGoodMend code stored lost key) index
  pub plan_is : plan ≡ mend_plan code stored lost key index
  pub gives : IsRepairOf code lost plan (repair_block code.width key index) good

-- no candidate below the budget is good
pub record NoMend (code : CodeParts) (stored : Option PlanParts) (lost : ℕ) (key : List ℕ) (budget : ℕ) : Type 0 where
  pub none : (i : ℕ) → i < budget → IsGoodMend code stored lost key i → ⊥

abbrev pub IsMendSearch : CodeParts → Option PlanParts → ℕ → List ℕ → ℕ → Mend → Type 0
IsMendSearch code stored lost key budget (Mended index plan good) = IsMend code stored lost key budget index plan good
IsMendSearch code stored lost key budget (Unmended tried) = (tried ≡ budget) × NoMend code stored lost key budget
