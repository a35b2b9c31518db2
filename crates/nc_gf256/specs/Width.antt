-- How many native chunks a file has.
use Rattle.std.specs.Prelude.{ℕ, ◌-◌, ◌*◌}

-- the number of native chunks at width n, with k = n-2 (F-MSR: Hu, Chen, Lee and Tang, FAST 2012)
abbrev pub native_count : ℕ → ℕ
native_count n = 2 * (n - 2)
