-- What holds of the moments and images of each record.
use Rattle.std.specs.Prelude.{ℕ, zero, suc, ◌≡◌, ◌≤◌, List, [], ◌∷◌, length, take, drop, refl}
use Rattle.std.proofs.Common.{arith, inr}
use Rattle.nc_memory.specs.declared.record.Event.{Event}
use Rattle.nc_cloud.specs.Contents.{Contents}
use Rattle.nc_memory.specs.Record.{contents_after}
use Rattle.nc_memory.specs.Moments.{ImageIn}

-- what is held at the end is an image since each moment
pub still_one : (log : List Event) (t : ℕ) (F : Contents) → ImageIn (drop t log) (contents_after (take t log) F) (contents_after log F)
still_one [] zero F = refl
still_one [] (suc t) F = refl
still_one (e ∷ es) zero F = inr (still_one es zero (contents_after (e ∷ []) F))
still_one (e ∷ es) (suc t) F = still_one es t (contents_after (e ∷ []) F)

-- the last moment is the end
pub at_last : (log : List Event) (F : Contents) → contents_after (take (length log) log) F ≡ contents_after log F
at_last [] F = refl
at_last (e ∷ es) F = at_last es (contents_after (e ∷ []) F)

-- since the last moment nothing else is an image
pub only_last : (log : List Event) (F G : Contents) → ImageIn (drop (length log) log) (contents_after (take (length log) log) F) G → G ≡ contents_after log F
only_last [] F G is = is
only_last (e ∷ es) F G is = only_last es (contents_after (e ∷ []) F) G is

-- an image since a moment is one since each earlier one
pub one_earlier : (log : List Event) (s t : ℕ) (F G : Contents) → s ≤ t → ImageIn (drop t log) (contents_after (take t log) F) G → ImageIn (drop s log) (contents_after (take s log) F) G
one_earlier [] zero zero F G le is = is
one_earlier [] zero (suc t) F G le is = is
one_earlier [] (suc s) zero F G le is = is
one_earlier [] (suc s) (suc t) F G le is = is
one_earlier (e ∷ es) zero zero F G le is = is
one_earlier (e ∷ es) zero (suc t) F G le is = inr (one_earlier es zero t (contents_after (e ∷ []) F) G (omega arith) is)
one_earlier (e ∷ es) (suc s) zero F G le is = absurd (omega arith)
one_earlier (e ∷ es) (suc s) (suc t) F G le is = one_earlier es s t (contents_after (e ∷ []) F) G (omega arith) is
