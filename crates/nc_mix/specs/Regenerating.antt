-- The chunks of a lost cloud, made anew of one chunk of each survivor.
use Rattle.std.specs.Prelude.{ℕ, ◌≡◌, ◌+◌, ◌<◌, nat_lt, List, [], map, slice_index, slice_index_or, if◌then◌else◌}
use Rattle.std.specs.List.{range_with_len}
use Rattle.nc_bytes.specs.Bytes.{AreBytes}
use Rattle.nc_native.specs.Native.{combination, native_len}
use Rattle.nc_code.specs.Parts.{CodeParts, PlanParts, IsCode}
use Rattle.nc_code.specs.Codes.{code_row, repaired}
use Rattle.nc_mix.specs.declared.pieces.Pair.{Pair}
use Rattle.nc_mix.specs.Mixing.{mixed}

-- the cloud at position k among the clouds other than the lost one
abbrev pub survivor : ℕ → ℕ → ℕ
survivor lost k = if nat_lt k lost then k else k + 1

-- the factor of the survivor at position k in the new row r
abbrev pub factor_at : PlanParts → ℕ → ℕ → ℕ → ℕ
factor_at plan lost r k = slice_index (slice_index_or plan.coefs r []) (survivor lost k)

abbrev pub factors : PlanParts → ℕ → ℕ → List ℕ
factors plan lost r = map (factor_at plan lost r) (range_with_len 0 16)

-- the new chunk of row r: the sum of the survivors' chunks, each times its factor
abbrev pub regenerated : PlanParts → ℕ → List (List ℕ) → ℕ → List ℕ
regenerated plan lost fetched r = mixed (native_len fetched) (factors plan lost r) fetched

-- both new chunks, whatever was fetched
pub record IsRegenerated (plan : PlanParts) (lost : ℕ) (fetched : List (List ℕ)) (pair : Pair) : Type 0 where
  pub zero : pair.zero ≡ regenerated plan lost fetched 0
  pub one : pair.one ≡ regenerated plan lost fetched 1

-- the chunk of the file v that a plan takes from cloud t
abbrev pub chosen_chunk : CodeParts → PlanParts → List ℕ → ℕ → List ℕ
chosen_chunk code plan v t = combination (code_row code t (slice_index plan.choice t)) v code.width

-- each survivor gave the chunk of the file v that the plan takes from it
pub record AreChosenOf (code : CodeParts) (plan : PlanParts) (lost : ℕ) (v : List ℕ) (fetched : List (List ℕ)) : Type 0 where
  pub each : (k : ℕ) → k + 1 < code.width
      → slice_index_or fetched k [] ≡ chosen_chunk code plan v (survivor lost k)

-- the chunks are the combinations of the file v by the rows of cloud c
pub record IsPairOf (code : CodeParts) (c : ℕ) (v : List ℕ) (pair : Pair) : Type 0 where
  pub zero : pair.zero ≡ combination (code_row code c 0) v code.width
  pub one : pair.one ≡ combination (code_row code c 1) v code.width

-- where chosen chunks of a file were fetched, these are the file's chunks of the repaired code, at this width
pub record RepairsFile (plan : PlanParts) (lost n : ℕ) (fetched : List (List ℕ)) (pair : Pair) : Type 0 where
  pub each : (code : CodeParts) (v : List ℕ) → IsCode code → code.width ≡ n → AreBytes v
      → AreChosenOf code plan lost v fetched → IsPairOf (repaired code lost plan) lost v pair
