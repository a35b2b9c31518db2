-- What isn't right of a name on n clouds that hold F.
use Rattle.std.specs.Prelude.{ℕ, ◌≡◌, ◌⊎◌, ◌+◌, ◌*◌, ◌<◌, ◌%◌, Option, None, Some, List, [], All, AllPairs, Contains, IfSome}
use Rattle.nc_meta.specs.declared.meta.Meta.{Meta}
use Rattle.nc_meta.specs.declared.meta.Meta.TheVariants as meta
use Rattle.nc_meta.specs.Metas.{generation_of}
use Rattle.nc_cloud.specs.Contents.{Contents}
use Rattle.nc_state.specs.Holding.{Holds, IsTopOrNone, Undisputed, meta_key}
use Rattle.nc_settle.specs.Elsewhere.{NothingMisplaced}
use Rattle.nc_settle.specs.Judging.{SealedMeta}
use Rattle.nc_download.specs.declared.judging.Wanted.{Wanted}
use Rattle.nc_download.specs.declared.short.How.TheVariants as how
use Rattle.nc_download.specs.Chunks.{wanted_of, ChunkIs}
use Rattle.nc_download.specs.Clouds.{held_at, IsGoodRow}
use Rattle.nc_scrub.specs.declared.flaw.Flaw.{Flaw}
use Rattle.nc_scrub.specs.declared.flaw.Part.{Part}
use Rattle.nc_scrub.specs.declared.flaw.Part.TheVariants as part
use Rattle.nc_scrub.specs.declared.flaw.State.{State}
use Rattle.nc_scrub.specs.declared.flaw.State.TheVariants as state

-- ---- parts

-- there are two rows of chunks
abbrev pub IsPart : Part → Type 0
IsPart part.Meta = Unit {0}
IsPart (part.Chunk r) = r < 2

-- where a part comes among those of its cloud
abbrev pub rank_of : Part → ℕ
rank_of part.Meta = 0
rank_of (part.Chunk r) = r + 1

-- where a part of cloud c comes among all
abbrev pub place_of : ℕ → Part → ℕ
place_of c p = 3 * c + rank_of p

-- ---- why a part isn't right

-- the bytes are sealed metadata of a lower generation than m, in its slot
pub record IsOlder (n : ℕ) (name : List ℕ) (m : Meta) (c : ℕ) (bytes : List ℕ) : Type 0 where
  pub other : Meta
  pub is_sealed : SealedMeta n name c (generation_of m % 2) bytes other
  pub lower : generation_of other < generation_of m

-- the bytes are no sealed metadata of this cloud, width and slot
pub record IsNoMeta (n : ℕ) (name : List ℕ) (m : Meta) (c : ℕ) (bytes : List ℕ) : Type 0 where
  pub none : (other : Meta) → SealedMeta n name c (generation_of m % 2) bytes other → ⊥

-- what cloud c holds in the place of the metadata m, where it isn't m
abbrev pub MetaIs : ℕ → List ℕ → Meta → Contents → ℕ → State → Type 0
MetaIs n name m F c state.Missing = F c (meta_key name m) ≡ None
MetaIs n name m F c state.Broken = (bytes : List ℕ) × (F c (meta_key name m) ≡ Some bytes) × IsNoMeta n name m c bytes
MetaIs n name m F c state.Old = (bytes : List ℕ) × (F c (meta_key name m) ≡ Some bytes) × IsOlder n name m c bytes
MetaIs n name m F c state.Marked = ⊥

-- what is held in the place of a chunk, where it isn't good
abbrev pub ChunkHas : Wanted → Option (List ℕ) → State → Type 0
ChunkHas w held state.Missing = ChunkIs w held how.Missing
ChunkHas w held state.Broken = ChunkIs w held how.Broken
ChunkHas w held state.Old = ⊥
ChunkHas w held state.Marked = ChunkIs w held how.Marked

-- a part of cloud c isn't as the highest metadata says; a removed file has no chunks
abbrev pub PartIs : ℕ → List ℕ → Meta → Contents → ℕ → Part → State → Type 0
PartIs n name m F c part.Meta s = MetaIs n name m F c s
PartIs n name (meta.Live m) F c (part.Chunk r) s = ChunkHas (wanted_of n name m r c) (held_at n name m F c r) s
PartIs n name (meta.Gone generation) F c (part.Chunk r) s = ⊥

-- a part of cloud c is as the highest metadata says
abbrev pub IsRight : ℕ → List ℕ → Meta → Contents → ℕ → Part → Type 0
IsRight n name m F c part.Meta = Holds n F name c m
IsRight n name (meta.Live m) F c (part.Chunk r) = (payload : List ℕ) × IsGoodRow n name m F c r payload
IsRight n name (meta.Gone generation) F c (part.Chunk r) = Unit {0}

-- ---- the list

-- a part of one of the clouds isn't right, and this is why
pub record IsFlaw (n : ℕ) (name : List ℕ) (m : Meta) (F : Contents) (f : Flaw) : Type 0 where
  pub in_width : f.cloud < n
  pub is_part : IsPart f.part
  pub wrong : IsRight n name m F f.cloud f.part → ⊥
  pub is : PartIs n name m F f.cloud f.part f.state

-- the list tells of a part of cloud c why it isn't right
pub record IsListed (flaws : List Flaw) (c : ℕ) (p : Part) : Type 0 where
  pub why : State
  pub among : Contains flaws (record { cloud = c; part = p; state = why })

-- The list has exactly the parts that aren't as the metadata m says: by cloud, metadata first and then row by row, each once.
pub record AreFlawsOf (n : ℕ) (name : List ℕ) (m : Meta) (F : Contents) (flaws : List Flaw) : Type 0 where
  pub each : All (IsFlaw n name m F) flaws
  pub all : (c : ℕ) (p : Part) → c < n → IsPart p → IsRight n name m F c p ⊎ IsListed flaws c p
  pub sorted : AllPairs (λ a b. place_of a.cloud a.part < place_of b.cloud b.part) flaws

-- where no cloud holds metadata of the name, nothing is to be right
abbrev pub AreFlawsBy : ℕ → List ℕ → Option Meta → Contents → List Flaw → Type 0
AreFlawsBy n name None F flaws = flaws ≡ []
AreFlawsBy n name (Some m) F flaws = AreFlawsOf n name m F flaws

-- What isn't right of a name, by the highest metadata that clouds hold: it isn't disputed, and nothing of elsewhere stands in its place.
pub record AreFlaws (n : ℕ) (name : List ℕ) (F : Contents) (flaws : List Flaw) : Type 0 where
  pub top : Option Meta
  pub is_top : IsTopOrNone n F name top
  pub undisputed : IfSome top (Undisputed n F name)
  pub nothing_misplaced : NothingMisplaced n name F
  pub are : AreFlawsBy n name top F flaws
