use Rattle.std.proofs.Common.{◌≡◌, ◌*◌, ℕ, [], ◌≤◌, length, get_or}
use Rattle.nc_search.proofs.tests.plain_code.Given as goal

abbrev pub invariant-loop-i : goal.invariant-loop-i
invariant-loop-i l =
    (length l.rows ≡ 20) × ((i k : ℕ) → l.natives ≤ k → get_or (get_or l.rows i []) k 0 ≡ 0) × ((i k : ℕ) → 2 * l.width ≤ i → get_or (get_or l.rows i []) k 0 ≡ 0)
