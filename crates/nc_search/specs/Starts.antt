-- Start candidates: codes whose rows are drawn, with drawn tries for each loss.
use Rattle.std.specs.Prelude.{ℕ, ◌≡◌, ◌+◌, ◌*◌, ◌<◌, ◌≤◌, nat_lt, List, map, slice_index, if◌then◌else◌}
use Rattle.std.specs.List.{range_with_len}
use Rattle.nc_gf256.specs.Width.{native_count}
use Rattle.nc_code.specs.Parts.{CodeParts, PlanParts}
use Rattle.nc_code.specs.Codes.{IsMds, no_plan}
use Rattle.nc_code.specs.Good.{plan_of}
use Rattle.nc_nextloss.specs.GoodCodes.{GoodParts}
use Rattle.nc_search.specs.Stream.{stream_part, word_count}
use Rattle.nc_search.specs.Tries.{tries_len, tries_at, HasGoodTry, IsFirstGoodTry, no_base}

-- the bytes of all rows at width n
abbrev pub rows_len : ℕ → ℕ
rows_len n = native_count n * (2 * n)

-- the bytes of a start block: the rows, and then the tries for the loss of each cloud
abbrev pub start_len : ℕ → ℕ
start_len n = rows_len n + n * tries_len n

-- block i, which begins at a word of its own
unfoldable pub start_block : ℕ → List ℕ → ℕ → List ℕ
start_block n key i = stream_part key (i * word_count (start_len n)) (start_len n)

-- entry k of row i of the code; the rows stand one after the other
abbrev pub start_entry : ℕ → List ℕ → ℕ → ℕ → ℕ
start_entry n block i k =
    if nat_lt i (2 * n) then if nat_lt k (native_count n) then slice_index block (i * native_count n + k) else 0 else 0

abbrev pub start_row : ℕ → List ℕ → ℕ → List ℕ
start_row n block i = map (start_entry n block i) (range_with_len 0 16)

unfoldable pub start_code : ℕ → List ℕ → CodeParts
start_code n block = record { width = n; rows = map (start_row n block) (range_with_len 0 20) }

-- the tries for a loss come after the rows, by cloud
abbrev pub start_tries : ℕ → List ℕ → ℕ → List ℕ
start_tries n block lost = tries_at n block (rows_len n + lost * tries_len n)

-- the plan is the first good try for a loss
abbrev pub IsStartPlan : ℕ → List ℕ → ℕ → PlanParts → Type 0
IsStartPlan n block lost plan = IsFirstGoodTry (start_code n block) lost no_base (start_tries n block lost) plan

-- the code is MDS, and each loss has a good try
pub record IsGoodStart (n : ℕ) (block : List ℕ) : Type 0 where
  pub mds : IsMds (start_code n block)
  pub each : (lost : ℕ) → lost < n → HasGoodTry (start_code n block) lost no_base (start_tries n block lost)

-- the candidate is good, and this is what it gives: its code, and for each loss the first good try
pub record IsStartOf (n : ℕ) (block : List ℕ) (good : GoodParts) : Type 0 where
  pub mds : IsMds (start_code n block)
  pub code : good.code ≡ start_code n block
  pub each : (lost : ℕ) → lost < n → IsStartPlan n block lost (plan_of good.witnesses lost)
  pub past : (lost : ℕ) → n ≤ lost → plan_of good.witnesses lost ≡ no_plan
