-- The rows of a drawn code: where they are 0.
use Rattle.std.proofs.Common.{◌≡◌, ℕ, ◌*◌, ◌≤◌, List, [], get_or, arith}
use Rattle.std.proofs.lemmas.Bool.Decides.{nat_tests}
use Rattle.nc_gf256.specs.Width.{native_count}
use Rattle.nc_code.proofs.FilledRows.{AreFilled, filled_zero}
use Rattle.nc_search.specs.Starts.{start_entry}

entry_past : (n : ℕ) (block : List ℕ) (i k : ℕ) → native_count n ≤ k → start_entry n block i k ≡ 0
entry_past n block i k h = grind (arith, nat_tests)

row_past : (n : ℕ) (block : List ℕ) (i k : ℕ) → 2 * n ≤ i → start_entry n block i k ≡ 0
row_past n block i k h = grind (arith, nat_tests)

pub natives_past : (n : ℕ) (block : List ℕ) (rows : List (List ℕ)) → AreFilled (start_entry n block) rows → (i k : ℕ) → native_count n ≤ k
    → get_or (get_or rows i []) k 0 ≡ 0
natives_past n block rows are i k past = filled_zero (start_entry n block) rows are i k (entry_past n block i k past)

pub clouds_past : (n : ℕ) (block : List ℕ) (rows : List (List ℕ)) → AreFilled (start_entry n block) rows → (i k : ℕ) → 2 * n ≤ i → get_or (get_or rows i []) k 0 ≡ 0
clouds_past n block rows are i k past = filled_zero (start_entry n block) rows are i k (row_past n block i k past)
