-- What is told of the parts of a name, by cloud, before it is listed.
use Rattle.std.specs.Prelude.{ℕ, ◌≡◌, ◌*◌, ◌<◌, ◌%◌, zero, suc, Option, None, Some, List, [], ◌∷◌, All, AllPairs, Contains, if◌then◌else◌, length, nat_lt, slice_index_or}
use Rattle.nc_meta.specs.declared.meta.Live.{Live}
use Rattle.nc_meta.specs.declared.meta.Meta.{Meta}
use Rattle.nc_meta.specs.declared.meta.Meta.TheVariants as meta
use Rattle.nc_meta.specs.Metas.{generation_of}
use Rattle.nc_cloud.specs.Contents.{Contents}
use Rattle.nc_cloud.specs.declared.fleet.Answer.{Answer}
use Rattle.nc_cloud.specs.declared.fleet.Ask.{Ask}
use Rattle.nc_cloud.specs.Fleet.{Shows}
use Rattle.nc_settle.specs.declared.place.Place.{Place}
use Rattle.nc_settle.specs.declared.place.Place.TheVariants as place
use Rattle.nc_settle.specs.Views.{Places, place_at}
use Rattle.nc_download.specs.declared.judging.Wanted.{Wanted}
use Rattle.nc_download.specs.Chunks.{frame_len, wanted_of, IsGoodChunk}
use Rattle.nc_download.specs.Clouds.{held_at}
use Rattle.nc_scrub.specs.declared.flaw.Flaw.{Flaw}
use Rattle.nc_scrub.specs.declared.flaw.Part.{Part}
use Rattle.nc_scrub.specs.declared.flaw.Part.TheVariants as part
use Rattle.nc_scrub.specs.declared.flaw.State.{State}
use Rattle.nc_scrub.specs.declared.flaw.State.TheVariants as state
use Rattle.nc_scrub.specs.Flaws.{place_of, ChunkHas, IsPart}

-- a table of why the parts of clouds aren't right, which has nothing where one is
abbrev pub Table : Type 0
Table = List (Option State)

abbrev pub state_at : Table → ℕ → Option State
state_at table c = slice_index_or table c None

-- ---- metadata

-- why metadata isn't right, where this was seen in its place and the highest is of generation g
abbrev pub meta_state : Place → ℕ → Option State
meta_state place.Absent g = Some state.Missing
meta_state place.Broken g = Some state.Broken
meta_state (place.Misplaced a b) g = Some state.Broken
meta_state place.Failed g = Some state.Broken
meta_state (place.Sealed o) g = if nat_lt (generation_of o) g then Some state.Old else None

-- the same of cloud c
abbrev pub meta_seen : Places → Meta → ℕ → Option State
meta_seen v m c = meta_state (place_at v c (generation_of m % 2)) (generation_of m)

-- the table tells so of the first k clouds
pub record AreMetaStates (v : Places) (m : Meta) (k : ℕ) (table : Table) : Type 0 where
  pub long : length table ≡ 10
  pub each : (c : ℕ) → c < k → state_at table c ≡ meta_seen v m c

-- ---- chunks

-- what is held is a good chunk, or this is why it isn't
abbrev pub ChunkTold : Wanted → Option (List ℕ) → Option State → Type 0
ChunkTold w held None = (payload : List ℕ) × IsGoodChunk w held payload
ChunkTold w held (Some s) = ChunkHas w held s

-- what follows from an answer
pub record JudgesChunk (w : Wanted) (a : Answer) (told : Option State) : Type 0 where
  pub verdict : (held : Option (List ℕ)) → Shows a (frame_len w) held → ChunkTold w held told

-- what follows from the entry of cloud c
pub record JudgesAsk (n : ℕ) (name : List ℕ) (m : Live) (r c : ℕ) (asks : List Ask) (told : Option State) : Type 0 where
  pub judges : (d : Ask) → JudgesChunk (wanted_of n name m r c) (slice_index_or asks c d).answer told

-- the table tells so of the first k clouds
pub record AreChunkStates (n : ℕ) (name : List ℕ) (m : Live) (r : ℕ) (asks : List Ask) (k : ℕ) (table : Table) : Type 0 where
  pub long : length table ≡ 10
  pub each : (c : ℕ) → c < k → JudgesAsk n name m r c asks (state_at table c)

-- the table tells of the chunks of row r why they aren't right
pub record RowTold (n : ℕ) (name : List ℕ) (m : Live) (r : ℕ) (F : Contents) (table : Table) : Type 0 where
  pub each : (c : ℕ) → c < n → ChunkTold (wanted_of n name m r c) (held_at n name m F c r) (state_at table c)

-- ---- the list

-- what three tables tell of a part of cloud c
abbrev pub told : Table → Table → Table → ℕ → Part → Option State
told metas zeros ones c part.Meta = state_at metas c
told metas zeros ones c (part.Chunk zero) = state_at zeros c
told metas zeros ones c (part.Chunk (suc r)) = state_at ones c

-- a part as a list, where it isn't right
abbrev pub flaws_of : ℕ → Part → Option State → List Flaw
flaws_of c p None = []
flaws_of c p (Some s) = record { cloud = c; part = p; state = s } ∷ []

-- a part of which this is told comes before place k
pub record IsTold (says : ℕ → Part → Option State) (k : ℕ) (f : Flaw) : Type 0 where
  pub is_part : IsPart f.part
  pub is : says f.cloud f.part ≡ Some f.state
  pub before : place_of f.cloud f.part < k

-- the list has the parts before place k of which something is told, in order
pub record ListsTo (says : ℕ → Part → Option State) (k : ℕ) (flaws : List Flaw) : Type 0 where
  pub each : All (IsTold says k) flaws
  pub all : (f : Flaw) → IsTold says k f → Contains flaws f
  pub sorted : AllPairs (λ a b. place_of a.cloud a.part < place_of b.cloud b.part) flaws

-- ---- what is compared

-- the tables tell of both rows of a file; of a removed one there is nothing to tell
abbrev pub RowsTold : ℕ → List ℕ → Meta → Contents → Table → Table → Type 0
RowsTold n name (meta.Live m) F zeros ones = RowTold n name m 0 F zeros × RowTold n name m 1 F ones
RowsTold n name (meta.Gone generation) F zeros ones = ((c : ℕ) → state_at zeros c ≡ None) × ((c : ℕ) → state_at ones c ≡ None)

-- the list has what the table of metadata tells, and what such tables of chunks do
pub record ListsBy (n : ℕ) (name : List ℕ) (m : Meta) (F : Contents) (metas : Table) (flaws : List Flaw) : Type 0 where
  pub zeros : Table
  pub ones : Table
  pub rows : RowsTold n name m F zeros ones
  pub lists : ListsTo (told metas zeros ones) (3 * n) flaws

-- the same of a file
abbrev pub ComparesChunks : ℕ → List ℕ → Live → Contents → Table → List Flaw → Type 0
ComparesChunks n name m F metas flaws = ListsBy n name (meta.Live m) F metas flaws

-- the list has what follows from a view and from the chunks
pub record Compares (n : ℕ) (name : List ℕ) (v : Places) (m : Meta) (F : Contents) (flaws : List Flaw) : Type 0 where
  pub metas : Table
  pub seen : AreMetaStates v m n metas
  pub listed : ListsBy n name m F metas flaws
