-- The chunks that metadata tells of, and what stands in their places.
use Rattle.std.specs.Prelude.{ℕ, ◌≡◌, ◌≢◌, ◌+◌, ◌*◌, Option, None, Result, Ok, Err, List, [], length, slice_index, slice_index_or, IsSome, IsSomeAnd}
use Rattle.std.specs.Borrow.{Bor}
use Rattle.sha2.specs.Sha256.{sha256}
use Rattle.nc_bytes.specs.Bytes.{part}
use Rattle.nc_name.specs.declared.key.Key.{Key}
use Rattle.nc_name.specs.declared.key.Key.TheVariants.{Chunk}
use Rattle.nc_name.specs.Keys.{key_text}
use Rattle.nc_frame.specs.Frames.{Sealed}
use Rattle.nc_native.specs.Native.{chunk_size}
use Rattle.nc_meta.specs.declared.meta.Live.{Live}
use Rattle.nc_download.specs.declared.judging.Wanted.{Wanted}
use Rattle.nc_download.specs.declared.short.How.{How}
use Rattle.nc_download.specs.declared.short.How.TheVariants.{Missing, Broken, Marked}

-- the chunk of row r of cloud c, of n, that the metadata of a file tells of
abbrev pub wanted_of : ℕ → List ℕ → Live → ℕ → ℕ → Wanted
wanted_of n name m r c = record {
  cloud = c;
  width = n;
  key = Chunk name (slice_index m.slots c) r;
  size = chunk_size m.len n;
  mark = slice_index_or m.marks (2 * c + r) [];
}

-- the bytes of its frame
abbrev pub frame_len : Wanted → ℕ
frame_len w = 48 + length (key_text w.key) + w.size

-- the bytes are as many as its frame has, and this stands in the payload's place
pub record IsInner (w : Wanted) (bytes inner : List ℕ) : Type 0 where
  pub total : length bytes ≡ frame_len w
  pub at : inner ≡ part (16 + length (key_text w.key)) w.size bytes

-- what is held is a frame of this cloud, width and key with this payload
abbrev pub HoldsPayload : Wanted → Option (List ℕ) → List ℕ → Type 0
HoldsPayload w held payload = IsSomeAnd held (λ bytes. Sealed bytes w.cloud w.width (key_text w.key) payload)

-- the payload has the length and the digest that the metadata tells
pub record IsGoodChunk (w : Wanted) (held : Option (List ℕ)) (payload : List ℕ) : Type 0 where
  pub holds : HoldsPayload w held payload
  pub long : length payload ≡ w.size
  pub marked : sha256 payload ≡ w.mark

-- there is an object, and none with a payload of the length that the metadata tells
pub record IsBrokenChunk (w : Wanted) (held : Option (List ℕ)) : Type 0 where
  pub there : IsSome held
  pub no_payload : (payload : List ℕ) → HoldsPayload w held payload → length payload ≢ w.size

-- the payload has the length that the metadata tells, and another digest
pub record IsMarkedChunk (w : Wanted) (held : Option (List ℕ)) : Type 0 where
  pub payload : List ℕ
  pub holds : HoldsPayload w held payload
  pub long : length payload ≡ w.size
  pub other : sha256 payload ≢ w.mark

-- why what is held isn't good
abbrev pub ChunkIs : Wanted → Option (List ℕ) → How → Type 0
ChunkIs w held Missing = held ≡ None
ChunkIs w held Broken = IsBrokenChunk w held
ChunkIs w held Marked = IsMarkedChunk w held

-- a good chunk's payload, or why what is held isn't good
abbrev pub IsJudged : Wanted → Option (List ℕ) → Result (Bor (List ℕ)) How → Type 0
IsJudged w held (Ok payload) = IsGoodChunk w held payload.now
IsJudged w held (Err how) = ChunkIs w held how

-- an ask for it
abbrev pub ask_of : Wanted → ℕ × Key × ℕ
ask_of w = (w.cloud, w.key, frame_len w)

-- an ask to cloud c for its chunk of row r
abbrev pub chunk_ask : ℕ → List ℕ → Live → ℕ → ℕ → ℕ × Key × ℕ
chunk_ask n name m r c = ask_of (wanted_of n name m r c)
