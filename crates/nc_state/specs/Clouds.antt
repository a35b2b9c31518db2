-- Sets of clouds.
use Rattle.std.specs.Prelude.{ℕ, ◌+◌, ◌&&◌, ◌||◌, ◌==◌, Bool, true, false, not, zero, suc, if◌then◌else◌}

-- the clouds of which this says yes
abbrev pub Clouds : Type 0
Clouds = ℕ → Bool

abbrev pub no_cloud : Clouds
no_cloud c = false

abbrev pub with_cloud : Clouds → ℕ → Clouds
with_cloud D lost c = D c || c == lost

abbrev pub without_cloud : Clouds → ℕ → Clouds
without_cloud D i c = D c && not (c == i)

-- some of the first n clouds is one of them
abbrev pub any_of : ℕ → Clouds → Bool
any_of zero D = false
any_of (suc n) D = D n || any_of n D

-- all of the first n clouds are
abbrev pub all_of : ℕ → Clouds → Bool
all_of zero D = true
all_of (suc n) D = D n && all_of n D

-- how many of the first n clouds are
abbrev pub count_of : ℕ → Clouds → ℕ
count_of zero D = 0
count_of (suc n) D = (if D n then 1 else 0) + count_of n D
