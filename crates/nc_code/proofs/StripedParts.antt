-- Where the entries of the striped code are 0.
use Rattle.std.proofs.Common.{◌≡◌, ℕ, ◌*◌, ◌/◌, ◌%◌, ◌≤◌, List, [], get_or, arith}
use Rattle.std.proofs.lemmas.Bool.Decides.{nat_tests}
use Rattle.nc_gf256.specs.Width.{native_count}
use Rattle.nc_code.proofs.FilledRows.{AreFilled, filled_zero}
use Rattle.nc_code.specs.Striped.{striped_entry}

entry_past : (n c s i : ℕ) → native_count n ≤ i → striped_entry n c s i ≡ 0
entry_past n c s i h = grind (arith, nat_tests)

cloud_past : (n c s i : ℕ) → 4 ≤ n → n ≤ c → striped_entry n c s i ≡ 0
cloud_past n c s i w h = grind (arith, nat_tests)

-- entry k of row i
abbrev pub entry_of : ℕ → ℕ → ℕ → ℕ
entry_of n i k = striped_entry n (i / 2) (i % 2) k

pub natives_past : (n : ℕ) (rows : List (List ℕ)) → AreFilled (entry_of n) rows → (i k : ℕ) → native_count n ≤ k → get_or (get_or rows i []) k 0 ≡ 0
natives_past n rows are i k past = filled_zero (entry_of n) rows are i k (entry_past n (i / 2) (i % 2) k past)

pub clouds_past : (n : ℕ) (rows : List (List ℕ)) → 4 ≤ n → AreFilled (entry_of n) rows → (i k : ℕ) → 2 * n ≤ i → get_or (get_or rows i []) k 0 ≡ 0
clouds_past n rows wide are i k past = filled_zero (entry_of n) rows are i k (cloud_past n (i / 2) (i % 2) k wide (omega arith))
