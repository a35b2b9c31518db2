-- What is said of codes: their rows, when they are MDS, repairs and witnesses.
use Rattle.std.specs.Prelude.{ℕ, ◌≡◌, ◌≢◌, ◌+◌, ◌*◌, ◌<◌, ◌≤◌, ◌==◌, List, [], map, replicate, slice_index, slice_index_or, slice_set, if◌then◌else◌}
use Rattle.std.specs.List.{range_with_len}
use Rattle.nc_bytes.specs.Bytes.{IsZeroPast}
use Rattle.nc_gf256.specs.Field.{mul, total}
use Rattle.nc_gf256.specs.Rows.{Independent}
use Rattle.nc_gf256.specs.Width.{native_count}
use Rattle.nc_code.specs.Parts.{CodeParts, PlanParts}

-- row r of cloud c
abbrev pub code_row : CodeParts → ℕ → ℕ → List ℕ
code_row code c r = slice_index_or code.rows (2 * c + r) []

-- a row of a cloud other than a and b
pub record IsRowWithout (code : CodeParts) (a b : ℕ) (row : List ℕ) : Type 0 where
  pub cloud : ℕ
  pub place : ℕ
  pub in_width : cloud < code.width
  pub in_pair : place < 2
  pub not_first : cloud ≢ a
  pub not_second : cloud ≢ b
  pub is_row : row ≡ code_row code cloud place

-- without the clouds a and b the rows are independent
pub record IsPairMds (code : CodeParts) (a b : ℕ) : Type 0 where
  pub free : Independent (native_count code.width) (IsRowWithout code a b)

-- The code is MDS: for every pair of clouds the rows of all others are independent, so that they give the file back.
abbrev pub IsMds : CodeParts → Type 0
IsMds code = (a b : ℕ) → a < b → b < code.width → IsPairMds code a b

-- what cloud t adds to entry i of the new row r of the lost cloud: coefs[r][t] times entry i of its chosen row
unfoldable pub term : CodeParts → ℕ → PlanParts → ℕ → ℕ → ℕ → ℕ
term code lost plan r i t =
    if t == lost then 0
    else mul (slice_index (slice_index_or plan.coefs r []) t) (slice_index (code_row code t (slice_index plan.choice t)) i)

abbrev pub repaired_entry : CodeParts → ℕ → PlanParts → ℕ → ℕ → ℕ
repaired_entry code lost plan r i = total code.width (term code lost plan r i)

-- the new row r of the lost cloud
unfoldable pub repaired_row : CodeParts → ℕ → PlanParts → ℕ → List ℕ
repaired_row code lost plan r = map (repaired_entry code lost plan r) (range_with_len 0 16)

-- the code after the repair: both rows of the lost cloud are new, all other rows stay
unfoldable pub repaired : CodeParts → ℕ → PlanParts → CodeParts
repaired code lost plan =
    record code { rows = slice_set (slice_set code.rows (2 * lost) (repaired_row code lost plan 0)) (2 * lost + 1) (repaired_row code lost plan 1) }

-- a plan is a witness of a loss where the code that it makes is MDS
pub record IsWitness (code : CodeParts) (lost : ℕ) (plan : PlanParts) : Type 0 where
  pub mds : IsMds (repaired code lost plan)

-- nothing is fetched
abbrev pub no_plan : PlanParts
no_plan = record { choice = replicate 10 0; coefs = replicate 2 (replicate 10 0) }

-- what a stored plan for this loss doesn't say is 0: the entries of the lost cloud and those past the width
pub record IsBare (n lost : ℕ) (plan : PlanParts) : Type 0 where
  pub choice : slice_index plan.choice lost ≡ 0
  pub choice_past : IsZeroPast n plan.choice
  pub coefs : (r : ℕ) → slice_index (slice_index_or plan.coefs r []) lost ≡ 0
  pub coefs_past : (r : ℕ) → IsZeroPast n (slice_index_or plan.coefs r [])
