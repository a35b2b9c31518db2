-- The writes of a version, all made before the first of them.
use Rattle.std.specs.Prelude.{ℕ, ◌≡◌, Some, List, All, map, slice_index}
use Rattle.nc_name.specs.declared.key.Key.{Key}
use Rattle.nc_name.specs.declared.key.Key.TheVariants as key
use Rattle.nc_name.specs.Keys.{key_text}
use Rattle.nc_frame.specs.Frames.{HasFrame, Whole, frame}
use Rattle.nc_native.specs.Native.{combination}
use Rattle.nc_code.specs.Codes.{code_row}
use Rattle.nc_meta.specs.declared.meta.Live.{Live}
use Rattle.nc_meta.specs.declared.meta.Meta.{Meta}
use Rattle.nc_meta.specs.declared.meta.Meta.TheVariants as meta
use Rattle.nc_cloud.specs.declared.fleet.Job.{Job}
use Rattle.nc_cloud.specs.Contents.{Write}
use Rattle.nc_cloud.specs.Deciding.{AreAscending}
use Rattle.nc_cloud.specs.Fleet.{writes}
use Rattle.nc_cloud.specs.Rounds.{row}
use Rattle.nc_settle.specs.MetaWrites.{meta_write}
use Rattle.nc_write.specs.declared.sealing.Placed.{Placed}
use Rattle.nc_write.specs.declared.sealing.VersionWrites.{VersionWrites}

-- cloud c of n is to hold this payload under this key
abbrev pub sealed_write : ℕ → ℕ → Key → List ℕ → Write
sealed_write n c place payload = record { cloud = c; key = place; new = Some (frame c n (key_text place) payload) }

-- where row r of a version stands on cloud c, in the slot that its metadata names
abbrev pub chunk_key : List ℕ → Live → ℕ → ℕ → Key
chunk_key name m r c = key.Chunk name (slice_index m.slots c) r

-- the write of a chunk of row r of a version, on its cloud
abbrev pub chunk_write : ℕ → List ℕ → Live → ℕ → Placed → Write
chunk_write n name m r x = sealed_write n x.cloud (chunk_key name m r x.cloud) x.chunk

-- the writes of these chunks of row r, each of a whole frame
pub record AreChunkWrites (n : ℕ) (name : List ℕ) (m : Live) (r : ℕ) (chunks : List Placed) (jobs : List Job) : Type 0 where
  pub writes_are : writes jobs ≡ map (chunk_write n name m r) chunks
  pub whole : All (λ j. Whole j.bytes) jobs
  pub fits : All (λ x. HasFrame x.cloud n (key_text (chunk_key name m r x.cloud)) x.chunk) chunks

-- the clouds of chunks
abbrev pub clouds_of : List Placed → List ℕ
clouds_of chunks = map (λ x. x.cloud) chunks

-- the writes of this metadata, one on each cloud, each of a whole frame
pub record AreMetaWrites (n : ℕ) (name : List ℕ) (m : Meta) (jobs : List Job) : Type 0 where
  pub writes_are : writes jobs ≡ row (meta_write n name m) 0 n
  pub whole : All (λ j. Whole j.bytes) jobs

-- All writes of a version with these new chunks, one of each row for each of some clouds: a put's are on all clouds, a repair's on one.
-- There are three rounds: row 0, row 1, and the metadata on all clouds. The writes of a row's chunks are as `Row` says.
pub record AreWritesBy (Row : Live → ℕ → List Placed → List Job → Type 0) (n : ℕ) (name : List ℕ) (zeros ones : List Placed) (w : VersionWrites) : Type 0 where
  pub ascend : AreAscending (λ c. c) n (clouds_of zeros)
  pub same : clouds_of ones ≡ clouds_of zeros
  pub row_0 : Row w.live 0 zeros w.first.items
  pub row_1 : Row w.live 1 ones w.second.items
  pub metas_are : AreMetaWrites n name (meta.Live w.live) w.metas.items

-- each of a whole frame
abbrev pub AreVersionWrites : ℕ → List ℕ → List Placed → List Placed → VersionWrites → Type 0
AreVersionWrites n name = AreWritesBy (AreChunkWrites n name) n name

-- those of a version of the name, whatever the chunks are
pub record AreWritesOf (n : ℕ) (name : List ℕ) (w : VersionWrites) : Type 0 where
  pub zeros : List Placed
  pub ones : List Placed
  pub made : AreVersionWrites n name zeros ones w

-- those of a version of some name
pub record AreWrites (n : ℕ) (w : VersionWrites) : Type 0 where
  pub name : List ℕ
  pub made : AreWritesOf n name w

-- the chunk of row r of the file v on cloud c
abbrev pub chunk_of : ℕ → Live → List ℕ → ℕ → ℕ → List ℕ
chunk_of n m v r c = combination (code_row m.code c r) v n

-- the chunks are those of row r of the file v
abbrev pub AreOfFile : ℕ → Live → List ℕ → ℕ → List Placed → Type 0
AreOfFile n m v r chunks = All (λ x. x.chunk ≡ chunk_of n m v r x.cloud) chunks

-- the writes of a version of the file v, with new chunks on these clouds
pub record WritesFile (n : ℕ) (name v : List ℕ) (clouds : List ℕ) (w : VersionWrites) : Type 0 where
  pub zeros : List Placed
  pub ones : List Placed
  pub made : AreVersionWrites n name zeros ones w
  pub at : clouds_of zeros ≡ clouds
  pub of_0 : AreOfFile n w.live v 0 zeros
  pub of_1 : AreOfFile n w.live v 1 ones
