-- The lost cloud and the others.
use Rattle.std.specs.Prelude.{ℕ, ◌<◌, ◌≤◌, slice_index}
use Rattle.nc_code.specs.Parts.{PlanParts}
use Rattle.nc_meta.specs.declared.meta.Live.{Live}
use Rattle.nc_meta.specs.Metas.{IsLive}

-- the file of this metadata stands on n clouds, of which i is lost
pub record HasLost (n i : ℕ) (m : Live) : Type 0 where
  pub wide : 4 ≤ n
  pub narrow : n ≤ 10
  pub live : IsLive n m
  pub lost : i < n

-- the row of the chunk that a plan takes from cloud t
abbrev pub chosen_row : PlanParts → ℕ → ℕ
chosen_row plan t = slice_index plan.choice t
