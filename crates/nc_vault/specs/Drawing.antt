-- The code of a version that a put or a repair makes.
use Rattle.std.specs.Prelude.{ℕ, ◌≡◌, ◌<◌, ◌≤◌, ◌-◌, ◌^◌, Option, Some, List}
use Rattle.nc_code.specs.Good.{IsGood}
use Rattle.nc_code.specs.Parts.{PlanParts}
use Rattle.nc_meta.specs.declared.meta.Live.{Live}
use Rattle.nc_meta.specs.declared.meta.Meta.{Meta}
use Rattle.nc_meta.specs.declared.meta.Meta.TheVariants as meta
use Rattle.nc_nextloss.specs.GoodCodes.{GoodParts}
use Rattle.nc_search.specs.Searches.{IsMend, IsStart, NoMend, NoStart}
use Rattle.nc_state.specs.Holding.{top_generation}
use Rattle.nc_words.specs.declared.setting.Setting.{Setting}
use Rattle.nc_vault.specs.declared.fault.Fault.{Fault}
use Rattle.nc_vault.specs.declared.fault.Fault.TheVariants as fault
use Rattle.nc_vault.specs.Makings.{next_key, stored_plan}

-- the first good code that is drawn for the version after this metadata, which isn't the last that there is
pub record IsDrawn (n : ℕ) (s : Setting) (name : List ℕ) (top : Option Meta) (good : GoodParts) : Type 0 where
  pub has_next : top_generation top < 2 ^ 64 - 2
  pub index : ℕ
  pub drawn : IsStart n (next_key s name top) s.budget index good

-- why none is
abbrev pub RefusesNext : ℕ → Setting → List ℕ → Option Meta → Fault → Type 0
RefusesNext n s name top fault.Worn = 2 ^ 64 - 2 ≤ top_generation top
RefusesNext n s name top (fault.Spent tried) = (tried ≡ s.budget) × (top_generation top < 2 ^ 64 - 2) × NoStart n (next_key s name top) s.budget
RefusesNext n s name top other = ⊥

-- ---- for a repair of cloud i

-- the plan and the first good code that are drawn for the version after this file's, which isn't the last that there is
pub record IsRepairDrawn (s : Setting) (i : ℕ) (name : List ℕ) (old : Live) (plan : PlanParts) (good : GoodParts) : Type 0 where
  pub has_next : old.generation < 2 ^ 64 - 2
  pub index : ℕ
  pub drawn : IsMend old.code (stored_plan old i) i (next_key s name (Some (meta.Live old))) s.budget index plan good
  pub is_good : IsGood good.code good.witnesses

-- why none is
abbrev pub RefusesRepair : Setting → ℕ → List ℕ → Live → Fault → Type 0
RefusesRepair s i name old fault.Worn = 2 ^ 64 - 2 ≤ old.generation
RefusesRepair s i name old (fault.Spent tried) = (tried ≡ s.budget) × (old.generation < 2 ^ 64 - 2) × NoMend old.code (stored_plan old i) i (next_key s name (Some (meta.Live old))) s.budget
RefusesRepair s i name old other = ⊥
