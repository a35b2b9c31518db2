-- The answers of one cloud.
use Rattle.std.specs.Prelude.{ℕ, ◌≡◌, ◌<◌, ◌≤◌, Option, None, Some, Result, Ok, Err, List, length, AllPairs, Contains, IsSome, IsSortedByKey}
use Rattle.std.specs.Cmp.Lexicographic.{slice_cmp}
use Rattle.std.specs.declared.cmp.Ordering.{Ordering}
use Rattle.std.specs.Ordering.{nat_cmp, ordering_then}
use Rattle.std.specs.declared.cmp.Ordering.TheVariants.{Less, Greater}
use Rattle.nc_name.specs.declared.key.Key.{Key}
use Rattle.nc_name.specs.declared.key.Key.TheVariants.{Meta, Chunk}
use Rattle.nc_name.specs.Keys.{key_text}
use Rattle.nc_cloud.specs.declared.cloud.Got.{Got}
use Rattle.nc_cloud.specs.declared.cloud.Got.TheVariants.{Bytes, Absent, Long}
use Rattle.nc_cloud.specs.declared.cloud.CloudError.{CloudError}
use Rattle.nc_cloud.specs.Contents.{Store}
use Rattle.nc_cloud.specs.Fleet.{got_count}

-- a get that doesn't fail gives what is held
abbrev pub GetShows : Result Got CloudError → ℕ → Option (List ℕ) → Type 0
GetShows (Ok (Bytes bytes)) most held = (held ≡ Some bytes) × (length bytes ≤ most)
GetShows (Ok Absent) most held = held ≡ None
GetShows (Ok Long) most held = (bytes : List ℕ) × (held ≡ Some bytes) × (most < length bytes)
GetShows (Err e) most held = Unit {0}

-- how many chunks a get gave
abbrev pub chunks_in : Key → Result Got CloudError → ℕ
chunks_in (Chunk name slot row) (Ok (Bytes bytes)) = 1
chunks_in (Chunk name slot row) (Ok Absent) = 0
chunks_in (Chunk name slot row) (Ok Long) = 0
chunks_in (Chunk name slot row) (Err e) = 0
chunks_in (Meta name slot) result = 0

-- the count of chunks that were given, after a get
abbrev pub got_after : Key → Result Got CloudError → ℕ → ℕ
got_after key result count = got_count count (chunks_in key result)

-- the order of keys by their parts: chunks first, by name, slot and row
abbrev pub key_order : Key → Key → Ordering
key_order (Chunk n s r) (Chunk m t q) = ordering_then (slice_cmp nat_cmp n m) (ordering_then (nat_cmp s t) (nat_cmp r q))
key_order (Meta n s) (Meta m t) = ordering_then (slice_cmp nat_cmp n m) (nat_cmp s t)
key_order (Chunk n s r) (Meta m t) = Less
key_order (Meta n s) (Chunk m t q) = Greater

-- the text of a key is before that of another
abbrev pub IsBefore : Key → Key → Type 0
IsBefore a b = slice_cmp nat_cmp (key_text a) (key_text b) ≡ Less

-- keys are sorted by their texts, each once
abbrev pub AreSorted : List Key → Type 0
AreSorted keys = AllPairs IsBefore keys

-- keys are sorted by their texts, some more than once
abbrev pub Ascend : List Key → Type 0
Ascend keys = IsSortedByKey key_text (slice_cmp nat_cmp) keys

-- the keys that a cloud holds, sorted by their texts, each once
pub record Lists (held : Store) (keys : List Key) : Type 0 where
  pub all : (key : Key) → IsSome (held key) → Contains keys key
  pub only : (key : Key) → Contains keys key → IsSome (held key)
  pub sorted : AreSorted keys
