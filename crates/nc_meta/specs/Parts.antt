-- The parts of payloads.
use Rattle.std.specs.Prelude.{ℕ, ◌+◌, ◌-◌, ◌<◌, ◌≤◌, ◌^◌, zero, suc, List, [], ◌∷◌, ◌++◌, length, replicate, slice_index, take, drop}
use Rattle.nc_bytes.specs.Bytes.{padded, part}

-- f 0, f 1 and so on, so many of them, end to end
abbrev pub each : ℕ → (ℕ → List ℕ) → List ℕ
each zero f = []
each (suc k) f = each k f ++ f k

-- what is said of the survivors of a loss, among n clouds, ascending
abbrev pub of_survivors : ℕ → ℕ → List ℕ → List ℕ
of_survivors n lost bytes = take lost bytes ++ part (lost + 1) (n - (lost + 1)) bytes

-- each is 0 or 1
abbrev pub AreBits : List ℕ → Type 0
AreBits xs = (i : ℕ) → slice_index xs i < 2

-- a generation that is stored
abbrev pub IsGeneration : ℕ → Type 0
IsGeneration g = (1 ≤ g) × (g ≤ 2 ^ 64 - 2)

-- by cloud, what is said of the survivors of a loss; what is not said is 0
abbrev pub spread : ℕ → List ℕ → List ℕ
spread lost bytes = padded 10 (take lost bytes ++ (0 ∷ drop lost bytes))
