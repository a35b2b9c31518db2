-- Counts of what failed.
use Rattle.std.specs.Prelude.{ℕ, ◌+◌, ◌-◌, ◌^◌, ◌≤◌, min}

-- a count that has risen by one, and stays at its end
abbrev pub next : ℕ → ℕ
next count = min (count + 1) (2 ^ 64 - 1)

-- a count has risen, or stands at its end
abbrev pub Rose : ℕ → ℕ → Type 0
Rose before now = next before ≤ now
