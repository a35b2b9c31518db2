-- The entries of rounds.
use Rattle.std.specs.Prelude.{ℕ, ◌≡◌, ◌<◌, ◌≤◌, Bool, true, false, Option, None, Some, List, [], ◌∷◌, length, map, ◌+◌, ◌-◌, ◌^◌, ◌&&◌, min, max, nat_eq, if◌then◌else◌}
use Rattle.nc_name.specs.declared.key.Key.{Key}
use Rattle.nc_name.specs.declared.key.Key.TheVariants.{Meta, Chunk}
use Rattle.nc_cloud.specs.declared.fleet.Ask.{Ask}
use Rattle.nc_cloud.specs.declared.fleet.Job.{Job}
use Rattle.nc_cloud.specs.declared.fleet.Erase.{Erase}
use Rattle.nc_cloud.specs.declared.fleet.Done.{Done}
use Rattle.nc_cloud.specs.declared.fleet.Done.TheVariants as done
use Rattle.nc_cloud.specs.declared.fleet.Answer.{Answer}
use Rattle.nc_cloud.specs.declared.fleet.Answer.TheVariants.{Waiting, Bytes, Absent, Long, Failed, Memory}
use Rattle.nc_cloud.specs.Contents.{Write, Touch}

-- an entry without its answer
abbrev pub asked : Ask → ℕ × Key × ℕ
asked a = (a.cloud, a.key, a.most)

abbrev pub write : Job → Write
write j = record { cloud = j.cloud; key = j.key; new = Some j.bytes }

abbrev pub writes : List Job → List Write
writes jobs = map write jobs

abbrev pub is_done : Done → Bool
is_done done.Ok = true
is_done done.Waiting = false
is_done done.Failed = false
is_done done.Memory = false

abbrev pub touch : Job → Touch
touch j = record { write = write j; ok = is_done j.done }

abbrev pub touches : List Job → List Touch
touches jobs = map touch jobs

-- a delete is a write of nothing
abbrev pub erasure : Erase → Write
erasure e = record { cloud = e.cloud; key = e.key; new = None }

abbrev pub erasures : List Erase → List Write
erasures erases = map erasure erases

abbrev pub erase_touch : Erase → Touch
erase_touch e = record { write = erasure e; ok = is_done e.done }

abbrev pub erase_touches : List Erase → List Touch
erase_touches erases = map erase_touch erases

-- the answer is what is held
abbrev pub Shows : Answer → ℕ → Option (List ℕ) → Type 0
Shows (Bytes bytes) most held = (held ≡ Some bytes) × (length bytes ≤ most)
Shows Absent most held = held ≡ None
Shows Long most held = (bytes : List ℕ) × (held ≡ Some bytes) × (most < length bytes)
Shows Failed most held = Unit {0}
Shows Memory most held = Unit {0}
Shows Waiting most held = ⊥

abbrev pub Answers : Ask → Option (List ℕ) → Type 0
Answers a held = Shows a.answer a.most held

-- ---- counts

-- how many pass a test
abbrev pub tally : {X : Type 0} → (X → Bool) → List X → ℕ
tally p [] = 0
tally p (x ∷ xs) = (if p x then 1 else 0) + tally p xs

abbrev pub is_failed : Answer → Bool
is_failed Failed = true
is_failed (Bytes bytes) = false
is_failed Absent = false
is_failed Long = false
is_failed Memory = false
is_failed Waiting = false

abbrev pub is_bytes : Answer → Bool
is_bytes (Bytes bytes) = true
is_bytes Absent = false
is_bytes Long = false
is_bytes Failed = false
is_bytes Memory = false
is_bytes Waiting = false

abbrev pub is_chunk : Key → Bool
is_chunk (Meta name slot) = false
is_chunk (Chunk name slot row) = true

-- how many chunks of a cloud a round gave
abbrev pub chunks_got : ℕ → List Ask → ℕ
chunks_got c asks = tally (λ a. nat_eq a.cloud c && (is_chunk a.key && is_bytes a.answer)) asks

-- a count of 64 bits after so many more, which stays at its end
abbrev pub got_count : ℕ → ℕ → ℕ
got_count before more = max before (min (before + more) (2 ^ 64 - 1))
