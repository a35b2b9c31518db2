-- Tries for one loss: sixteen plans, one after the other in the bytes of a block.
use Rattle.std.specs.Prelude.{ℕ, ◌*◌, ◌<◌, List, replicate, slice_index}
use Rattle.nc_bytes.specs.Bytes.{part}
use Rattle.nc_code.specs.Parts.{CodeParts, PlanParts}
use Rattle.nc_code.specs.Tries.{plan_len}
use Rattle.nc_nextloss.specs.Firsts.{IsFirstWitness, IsGoodTry}

-- the bytes of the tries for one loss
abbrev pub tries_len : ℕ → ℕ
tries_len n = 16 * plan_len n

-- the tries that begin at a place of a block
abbrev pub tries_at : ℕ → List ℕ → ℕ → List ℕ
tries_at n block at = part at (tries_len n) block

-- one of the tries for a loss, which are read with a base, is a witness
pub record HasGoodTry (code : CodeParts) (lost : ℕ) (base tries : List ℕ) : Type 0 where
  pub index : ℕ
  pub below : index < 16
  pub good : IsGoodTry code lost (slice_index base) (slice_index tries) index

-- the plan is the first of the tries that is a witness
abbrev pub IsFirstGoodTry : CodeParts → ℕ → List ℕ → List ℕ → PlanParts → Type 0
IsFirstGoodTry code lost base tries plan = IsFirstWitness code lost (slice_index base) (slice_index tries) 16 plan

-- the base that turns nothing over: 0 for each cloud
abbrev pub no_base : List ℕ
no_base = replicate 10 0
