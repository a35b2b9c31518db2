-- Why a call on a source or a sink failed.
use Rattle.std.specs.Prelude.{ℕ, ◌≡◌, ◌≤◌, ◌<◌, List, length, IfOk, OnOk, OnErr}
use Rattle.std.specs.declared.result.Result.{Result}
use Rattle.nc_name.specs.Counts.{Rose}

-- The count has not fallen. A call fails only where it rose; where counts are exact, it rises only where the call fails.
pub record HasCount {T E : Type 0} (exact : Type 0) (before now : ℕ) (result : Result T E) : Type 0 where
  pub later : before ≤ now
  pub failed : OnErr result (Rose before now)
  pub same : exact → OnOk result (now ≡ before)

-- a write of some bytes takes some
abbrev pub Moves : {E : Type 0} → List ℕ → Result ℕ E → Type 0
Moves bytes result = IfOk result (λ n. 0 < length bytes → 0 < n)
