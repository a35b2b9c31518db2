-- Writes of a version's chunks whose frames are laid out before the first round, and get their digests afterwards.
use Rattle.std.specs.Prelude.{ℕ, ◌≡◌, ◌<◌, Option, Some, List, All, length, map, slice_index_or}
use Rattle.std.specs.Option.{option_map}
use Rattle.nc_name.specs.Keys.{key_text}
use Rattle.nc_frame.specs.Frames.{HasFrame, finished, laid_frame}
use Rattle.nc_meta.specs.declared.meta.Live.{Live}
use Rattle.nc_nextloss.specs.GoodCodes.{GoodParts}
use Rattle.nc_meta.specs.declared.meta.Meta.{Meta}
use Rattle.nc_cloud.specs.declared.fleet.Job.{Job}
use Rattle.nc_cloud.specs.Contents.{Write}
use Rattle.nc_cloud.specs.Fleet.{write, writes}
use Rattle.nc_write.specs.declared.sealing.Placed.{Placed}
use Rattle.nc_write.specs.declared.sealing.RowWrites.{RowWrites}
use Rattle.nc_write.specs.declared.sealing.VersionWrites.{VersionWrites}
use Rattle.nc_write.specs.Putting.{IsPutOf}
use Rattle.nc_write.specs.Writes.{AreWritesBy, chunk_key}

-- ---- laid out

-- the write of a chunk of row r of a version, on its cloud, but for its digest
abbrev pub laid_write : ℕ → List ℕ → Live → ℕ → Placed → Write
laid_write n name m r x = record {
  cloud = x.cloud;
  key = chunk_key name m r x.cloud;
  new = Some (laid_frame x.cloud n (key_text (chunk_key name m r x.cloud)) x.chunk);
}

-- what has a frame under the key of its chunk
abbrev pub Fits : ℕ → List ℕ → Live → ℕ → Placed → Type 0
Fits n name m r x = HasFrame x.cloud n (key_text (chunk_key name m r x.cloud)) x.chunk

-- those of these chunks of row r
pub record AreLaidWrites (n : ℕ) (name : List ℕ) (m : Live) (r : ℕ) (chunks : List Placed) (jobs : List Job) : Type 0 where
  pub writes_are : writes jobs ≡ map (laid_write n name m r) chunks
  pub fits : All (Fits n name m r) chunks

-- those of a version
abbrev pub AreVersionLaid : ℕ → List ℕ → List Placed → List Placed → VersionWrites → Type 0
AreVersionLaid n name = AreWritesBy (AreLaidWrites n name) n name

-- those of some version
pub record IsLaid (n : ℕ) (w : VersionWrites) : Type 0 where
  pub name : List ℕ
  pub zeros : List Placed
  pub ones : List Placed
  pub laid : AreVersionLaid n name zeros ones w

-- ---- finished

-- the same write, with the digest
abbrev pub finished_write : Write → Write
finished_write p = record { cloud = p.cloud; key = p.key; new = option_map finished p.new }

-- the entry's frame has its digest
pub record FinishesJob (old new : Job) : Type 0 where
  pub is : write new ≡ finished_write (write old)

-- each of them has
pub record AreFinished (old new : List Job) : Type 0 where
  pub same_length : length new ≡ length old
  pub each : (i : ℕ) (d : Job) → i < length old → FinishesJob (slice_index_or old i d) (slice_index_or new i d)

-- those of both rows
pub record FinishesRows (old new : RowWrites) : Type 0 where
  pub first : AreFinished old.first.items new.first.items
  pub second : AreFinished old.second.items new.second.items

-- those of a version, whose metadata stays
pub record FinishesVersion (old new : VersionWrites) : Type 0 where
  pub live : new.live ≡ old.live
  pub first : AreFinished old.first.items new.first.items
  pub second : AreFinished old.second.items new.second.items
  pub metas : new.metas.items ≡ old.metas.items

-- The file v was prepared after this metadata, by this code: all its writes are laid out, and finished they are those of the put.
pub record IsPutLaid (n : ℕ) (name : List ℕ) (top : Option Meta) (good : GoodParts) (v : List ℕ) (w : VersionWrites) : Type 0 where
  pub is : IsLaid n w
  pub once_finished : (done : VersionWrites) → FinishesVersion w done → IsPutOf n name top good v done
