-- The chunks of a version, and where they are right.
use Rattle.std.specs.Prelude.{ℕ, ◌≡◌, ◌<◌, ◌==◌, Bool, false, Some, List, [], if◌then◌else◌, slice_index}
use Rattle.std.specs.Option.{option_map_or}
use Rattle.nc_native.specs.Native.{combination}
use Rattle.nc_code.specs.Codes.{code_row}
use Rattle.nc_name.specs.declared.key.Key.{Key}
use Rattle.nc_name.specs.declared.key.Key.TheVariants as key
use Rattle.nc_name.specs.Keys.{key_text}
use Rattle.nc_frame.specs.Frames.{Sealed, Whole, frame}
use Rattle.nc_meta.specs.declared.meta.Meta.{Meta}
use Rattle.nc_meta.specs.declared.meta.Meta.TheVariants as meta
use Rattle.nc_cloud.specs.Contents.{Contents}
use Rattle.nc_state.specs.Clouds.{Clouds}
use Rattle.nc_state.specs.Holding.{is_object}
use Rattle.nc_state.specs.Versions.{Version, meta_of}
use Rattle.nc_state.specs.Versions.Version.{Never, Removed, Stored}

-- the version has a chunk of its own under this key of cloud c: both rows of the slot that its meta names
abbrev pub HasChunkAt : List ℕ → Version → ℕ → Key → Type 0
HasChunkAt name x c (key.Meta other slot) = ⊥
HasChunkAt name (Stored m v) c (key.Chunk other slot row) = (other ≡ name) × (slot ≡ slice_index m.slots c) × (row < 2)
HasChunkAt name Never c (key.Chunk other slot row) = ⊥
HasChunkAt name (Removed generation) c (key.Chunk other slot row) = ⊥

-- the payload of that chunk
abbrev pub payload_at : ℕ → Version → ℕ → Key → List ℕ
payload_at n x c (key.Meta other slot) = []
payload_at n (Stored m v) c (key.Chunk other slot row) = combination (code_row m.code c row) v n
payload_at n Never c (key.Chunk other slot row) = []
payload_at n (Removed generation) c (key.Chunk other slot row) = []

-- the bytes are this chunk, sealed for its place
abbrev pub IsChunk : ℕ → Version → ℕ → Key → List ℕ → Type 0
IsChunk n x c place bytes = Sealed bytes c n (key_text place) (payload_at n x c place)

-- the object under this key of cloud c is right
pub record IsRight (n : ℕ) (F : Contents) (x : Version) (c : ℕ) (place : Key) : Type 0 where
  pub bytes : List ℕ
  pub stands : F c place ≡ Some bytes
  pub is_chunk : IsChunk n x c place bytes

-- the object that it is then
abbrev pub chunk_object : ℕ → Version → ℕ → Key → List ℕ
chunk_object n x c place = frame c n (key_text place) (payload_at n x c place)

-- the same as a test
abbrev pub is_right : ℕ → Contents → Version → ℕ → Key → Bool
is_right n F x c place = is_object (F c place) (chunk_object n x c place)

-- all chunks of the version on cloud c are right
abbrev pub RightOn : ℕ → Contents → List ℕ → Version → ℕ → Type 0
RightOn n F name x c = (place : Key) → HasChunkAt name x c place → IsRight n F x c place

-- Each place that the version names is right, absent or broken, and right on every cloud outside D.
pub record PlacesStand (n : ℕ) (F : Contents) (D : Clouds) (name : List ℕ) (x : Version) : Type 0 where
  pub sound : (c : ℕ) (place : Key) (bytes : List ℕ) → c < n → HasChunkAt name x c place → F c place ≡ Some bytes → Whole bytes → IsChunk n x c place bytes
  pub right : (c : ℕ) (place : Key) → c < n → D c ≡ false → HasChunkAt name x c place → IsRight n F x c place

-- the slot on cloud c that new chunks are written to: the one that the meta doesn't name
abbrev pub free_slot : Meta → ℕ → ℕ
free_slot (meta.Live m) c = if slice_index m.slots c == 0 then 1 else 0
free_slot (meta.Gone generation) c = 0

-- the same for a version
abbrev pub free_slot_of : Version → ℕ → ℕ
free_slot_of x c = option_map_or (λ m. free_slot m c) (meta_of x) 0

-- the version of this meta has its chunks in this slot of cloud c
abbrev pub names_slot : Meta → ℕ → ℕ → Bool
names_slot (meta.Live m) c slot = slice_index m.slots c == slot
names_slot (meta.Gone generation) c slot = false
