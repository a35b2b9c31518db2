-- What a round, or a stop within it, leaves of what stands.
use Rattle.std.specs.Prelude.{ℕ, ◌≡◌, ◌≢◌, ◌<◌, ◌%◌, true, Option, None, Some, List, IfSome}
use Rattle.nc_name.specs.declared.key.Key.{Key}
use Rattle.nc_name.specs.declared.key.Key.TheVariants as key
use Rattle.nc_frame.specs.Frames.{Whole}
use Rattle.nc_meta.specs.declared.meta.Meta.{Meta}
use Rattle.nc_meta.specs.Metas.{generation_of}
use Rattle.nc_cloud.specs.Contents.{Contents, Fate, Write}
use Rattle.nc_cloud.specs.Images.{write_at}
use Rattle.nc_state.specs.Clouds.{Clouds}
use Rattle.nc_state.specs.Versions.{Version, meta_of}
use Rattle.nc_state.specs.Holding.{Holds, meta_key, meta_object}
use Rattle.nc_state.specs.Right.{IsChunk, HasChunkAt}

-- What a round touches: `touches c place new` says that it may, under this key of cloud c, with what is to be new there (None
-- where it erases).
abbrev pub Touching : Type 1
Touching = ℕ → Key → Option (List ℕ) → Type 0

-- an object after the round is as before, or it was touched
pub data Left (touches : Option (List ℕ) → Type 0) (old left : Option (List ℕ)) : Type 0 where
  untouched : left ≡ old → Left touches old left
  touched : (new : Option (List ℕ)) → touches new → Fate old new left → Left touches old left

-- G is what the round's end, or a stop within it, may leave of F on n clouds.
pub record IsImage (n : ℕ) (touches : Touching) (F G : Contents) : Type 0 where
  pub each : (c : ℕ) (place : Key) → c < n → Left (touches c place) (F c place) (G c place)

-- the entry of cloud c in a round
pub record IsEntry (ps : List Write) (c : ℕ) (place : Key) (new : Option (List ℕ)) : Type 0 where
  pub entry : Write
  pub found : write_at ps c ≡ Some entry
  pub at : place ≡ entry.key
  pub writes : new ≡ entry.new

-- ---- the rounds of commands

-- the key of a chunk of the name
abbrev pub IsChunkOf : List ℕ → Key → Type 0
IsChunkOf name (key.Chunk other slot row) = other ≡ name
IsChunkOf name (key.Meta other slot) = ⊥

-- the meta m of the name, on any cloud
pub record WritesMeta (n : ℕ) (name : List ℕ) (m : Meta) (c : ℕ) (place : Key) (new : Option (List ℕ)) : Type 0 where
  pub at : place ≡ meta_key name m
  pub writes : new ≡ Some (meta_object n name c m)

-- the meta m of the name, on clouds that don't hold it
pub record WritesMissing (n : ℕ) (F : Contents) (name : List ℕ) (m : Meta) (c : ℕ) (place : Key) (new : Option (List ℕ)) : Type 0 where
  pub write : WritesMeta n name m c place new
  pub lacks : Holds n F name c m → ⊥

-- chunks of the name that the version x doesn't name: whole objects, or nothing
pub record WritesFree (name : List ℕ) (x : Version) (c : ℕ) (place : Key) (new : Option (List ℕ)) : Type 0 where
  pub at : IsChunkOf name place
  pub free : HasChunkAt name x c place → ⊥
  pub writes : IfSome new Whole

-- chunks that x names, on damaged clouds, with what is right there
pub record WritesRight (n : ℕ) (D : Clouds) (name : List ℕ) (x : Version) (c : ℕ) (place : Key) (new : Option (List ℕ)) : Type 0 where
  pub at : HasChunkAt name x c place
  pub damaged : D c ≡ true
  pub bytes : List ℕ
  pub writes : new ≡ Some bytes
  pub is_chunk : IsChunk n x c place bytes

-- nothing, in place of metas of the name in the slot where that of x doesn't stand
pub record ErasesMeta (name : List ℕ) (x : Version) (c : ℕ) (place : Key) (new : Option (List ℕ)) : Type 0 where
  pub slot : ℕ
  pub at : place ≡ key.Meta name slot
  pub not_its : IfSome (meta_of x) (λ m. slot ≢ generation_of m % 2)
  pub erases : new ≡ None

-- any of the last three: what put, repair and restore write before their metas, and what tidying erases
pub data LeavesAtRest (n : ℕ) (D : Clouds) (name : List ℕ) (x : Version) (c : ℕ) (place : Key) (new : Option (List ℕ)) : Type 0 where
  free : WritesFree name x c place new → LeavesAtRest n D name x c place new
  right : WritesRight n D name x c place new → LeavesAtRest n D name x c place new
  erased : ErasesMeta name x c place new → LeavesAtRest n D name x c place new
