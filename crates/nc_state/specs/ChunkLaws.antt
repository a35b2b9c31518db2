-- The laws of chunks.
use Rattle.std.specs.Prelude.{ℕ, ◌≡◌, ◌≢◌, ◌+◌, ◌*◌, ◌<◌, ◌≤◌, ◌⊎◌, ◌↔◌, true, Some, List, [], IfSome, length, slice_index, slice_index_or}
use Rattle.sha2.specs.Sha256.{sha256}
use Rattle.nc_native.specs.Native.{chunk_size, combination}
use Rattle.nc_code.specs.Parts.{PlanParts}
use Rattle.nc_code.specs.Codes.{IsMds, IsWitness, code_row}
use Rattle.nc_code.specs.Good.{plan_of}
use Rattle.nc_name.specs.declared.key.Key.{Key}
use Rattle.nc_name.specs.declared.key.Key.TheVariants as key
use Rattle.nc_name.specs.Names.{IsName}
use Rattle.nc_name.specs.Keys.{key_text, name_of}
use Rattle.nc_frame.specs.Frames.{Sealed}
use Rattle.nc_meta.specs.declared.meta.Live.{Live}
use Rattle.nc_meta.specs.declared.meta.Meta.{Meta}
use Rattle.nc_meta.specs.Metas.{IsLive}
use Rattle.nc_cloud.specs.Contents.{Contents}
use Rattle.nc_state.specs.Clouds.{Clouds}
use Rattle.nc_state.specs.Versions.{Version, IsValid}
use Rattle.nc_state.specs.Versions.Version.{Never, Removed, Stored}
use Rattle.nc_state.specs.Holding.{HoldsVersion}
use Rattle.nc_state.specs.Right.{HasChunkAt, IsRight, PlacesStand, RightOn, free_slot_of, is_right, payload_at}
use Rattle.nc_state.specs.Entries.{Entry}
use Rattle.nc_state.specs.Weighing.{settled}
use Rattle.nc_state.specs.Rounds.{IsImage, LeavesAtRest, WritesMeta}
use Rattle.nc_state.specs.Mending.{IsMended}

-- ---- what keeps them

-- The chunks of a version at rest stay through rounds of chunks and through tidying, where clouds outside E aren't written to.
abbrev pub ChunksStay : Type 0
ChunksStay = (n : ℕ) (F G : Contents) (E : Clouds) (name : List ℕ) (x : Version) → IsImage n (LeavesAtRest n E name x) F G → PlacesStand n F E name x → PlacesStand n G E name x

-- and those of every name through a round of metas
abbrev pub MetasKeepChunks : Type 0
MetasKeepChunks = (n : ℕ) (F G : Contents) (E : Clouds) (name other : List ℕ) (m : Meta) (y : Version)
    → IsImage n (WritesMeta n name m) F G → PlacesStand n F E other y → PlacesStand n G E other y

-- all objects of the name are as they were
abbrev pub SameAt : ℕ → Contents → Contents → List ℕ → Type 0
SameAt n F G name = (c : ℕ) (place : Key) → c < n → name_of place ≡ name → G c place ≡ F c place

-- then so is all that they stand for
abbrev pub UntouchedStays : Type 0
UntouchedStays = (n : ℕ) (F G : Contents) (name : List ℕ) → SameAt n F G name
    → ((E : Clouds) (x : Version) → PlacesStand n F E name x → PlacesStand n G E name x)
    × ((c : ℕ) (x : Version) → c < n → HoldsVersion n F name c x → HoldsVersion n G name c x)
    × ((e : Entry) → settled n G name e ≡ settled n F name e)

-- ---- new versions

-- a version whose chunks on a cloud are in the free slot has no place there that the one before has
abbrev pub FreeSlotIsFree : Type 0
FreeSlotIsFree = (name : List ℕ) (x : Version) (m : Live) (v : List ℕ) (c : ℕ) (place : Key)
    → slice_index m.slots c ≡ free_slot_of x c → HasChunkAt name (Stored m v) c place → HasChunkAt name x c place → ⊥

-- The chunks of a new version stand where on each cloud they are right, or are those of the version before, with the same
-- payloads, whose chunks stand.
abbrev pub NewPlacesStand : Type 0
NewPlacesStand = (n : ℕ) (F : Contents) (D : Clouds) (name : List ℕ) (x y : Version) → PlacesStand n F D name x
    → ((c : ℕ) → c < n → RightOn n F name y c
    ⊎ ((place : Key) → HasChunkAt name y c place → HasChunkAt name x c place × (payload_at n y c place ≡ payload_at n x c place)))
    → PlacesStand n F D name y

-- of a name without a file nothing has to be right
abbrev pub NothingToBeRight : Type 0
NothingToBeRight = (n : ℕ) (F : Contents) (name : List ℕ) (c : ℕ) → RightOn n F name Never c × ((generation : ℕ) → RightOn n F name (Removed generation) c)

-- ---- repair

-- clouds other than the repaired one keep their chunks
abbrev pub MendedKeepsChunks : Type 0
MendedKeepsChunks = (n i : ℕ) (name : List ℕ) (plan : PlanParts) (old m : Live) (v : List ℕ) (c : ℕ) (place : Key)
    → IsMended i plan old m → c ≢ i → HasChunkAt name (Stored m v) c place
    → HasChunkAt name (Stored old v) c place × (payload_at n (Stored m v) c place ≡ payload_at n (Stored old v) c place)

-- on the repaired cloud they are in the free slot
abbrev pub MendedIsFree : Type 0
MendedIsFree = (n i : ℕ) (plan : PlanParts) (old m : Live) (v : List ℕ)
    → IsMended i plan old m → IsLive n old → n ≤ 10 → i < n → slice_index m.slots i ≡ free_slot_of (Stored old v) i

-- a repaired version is valid where its code and its plans are good, and the marks of the repaired cloud are the digests
abbrev pub MendedIsValid : Type 0
MendedIsValid = (n i : ℕ) (plan : PlanParts) (old m : Live) (v : List ℕ)
    → IsMended i plan old m → IsLive n m → IsMds m.code → IfSome m.witnesses (λ w. (lost : ℕ) → lost < n → IsWitness m.code lost (plan_of w lost))
    → ((r : ℕ) → r < 2 → slice_index_or m.marks (2 * i + r) [] ≡ sha256 (combination (code_row m.code i r) v n))
    → IsValid n (Stored old v) → IsValid n (Stored m v)

-- ---- right chunks, and marks

-- What is sealed where a version has a chunk that stands is that chunk.
abbrev pub OnlyRightIsSealed : Type 0
OnlyRightIsSealed = (n : ℕ) (F : Contents) (D : Clouds) (name : List ℕ) (x : Version) (c : ℕ) (place : Key) (bytes payload : List ℕ)
    → PlacesStand n F D name x → c < n → HasChunkAt name x c place → F c place ≡ Some bytes → Sealed bytes c n (key_text place) payload
    → payload ≡ payload_at n x c place

-- It has the size of a chunk, and the mark is its digest.
abbrev pub RightIsMarked : Type 0
RightIsMarked = (n : ℕ) (name : List ℕ) (m : Live) (v : List ℕ) (c slot row : ℕ) → IsValid n (Stored m v) → c < n → row < 2
    → (length (payload_at n (Stored m v) c (key.Chunk name slot row)) ≡ chunk_size m.len n)
    × (sha256 (payload_at n (Stored m v) c (key.Chunk name slot row)) ≡ slice_index_or m.marks (2 * c + row) [])

-- Where a chunk isn't right, its cloud is damaged.
abbrev pub WrongIsDamaged : Type 0
WrongIsDamaged = (n : ℕ) (F : Contents) (D : Clouds) (name : List ℕ) (x : Version) (c : ℕ) (place : Key)
    → PlacesStand n F D name x → c < n → HasChunkAt name x c place → (IsRight n F x c place → ⊥) → D c ≡ true

-- The test tells whether a chunk of a valid version is right.
abbrev pub RightIsTested : Type 0
RightIsTested = (n : ℕ) (F : Contents) (name : List ℕ) (x : Version) (c : ℕ) (place : Key)
    → IsName name → IsValid n x → c < n → HasChunkAt name x c place → (is_right n F x c place ≡ true) ↔ IsRight n F x c place
