-- What the answers of a round give of a row of chunks, cloud by cloud.
use Rattle.std.specs.Prelude.{ℕ, ◌≡◌, ◌≢◌, ◌<◌, Bool, true, false, Option, None, Some, List, Contains, if◌then◌else◌, length, map, slice_index_or, ◌-◌, All}
use Rattle.nc_name.specs.declared.key.Key.{Key}
use Rattle.nc_cloud.specs.declared.fleet.Answer.{Answer}
use Rattle.nc_cloud.specs.declared.fleet.Answer.TheVariants as answer
use Rattle.nc_cloud.specs.declared.fleet.Ask.{Ask}
use Rattle.nc_cloud.specs.Fleet.{Shows, asked, is_bytes}
use Rattle.nc_cloud.specs.Rounds.{some_row}
use Rattle.nc_meta.specs.declared.meta.Live.{Live}
use Rattle.nc_state.specs.Clouds.{Clouds}
use Rattle.nc_download.specs.declared.judging.Wanted.{Wanted}
use Rattle.nc_download.specs.declared.short.How.{How}
use Rattle.nc_download.specs.declared.short.Why.TheVariants.{Failed, Row}
use Rattle.nc_fetch.specs.declared.founds.Found.{Found}
use Rattle.nc_fetch.specs.declared.founds.Found.TheVariants.{Unasked, Good, Bad}
use Rattle.nc_download.specs.Chunks.{chunk_ask, frame_len, wanted_of, ChunkIs, IsGoodChunk}

abbrev pub found_at : List Found → ℕ → Found
found_at founds c = slice_index_or founds c Unasked

abbrev pub is_asked : Found → Bool
is_asked Unasked = false
is_asked (Good payload) = true
is_asked (Bad why) = true

abbrev pub is_good : Found → Bool
is_good Unasked = false
is_good (Good payload) = true
is_good (Bad why) = false

-- the answer gives this payload of the chunk
pub record GivesGood (w : Wanted) (a : Answer) (payload : List ℕ) : Type 0 where
  pub verdict : (held : Option (List ℕ)) → Shows a (frame_len w) held → IsGoodChunk w held payload
  pub long : length payload ≡ w.size
  pub given : is_bytes a ≡ true

-- the answer shows that the chunk isn't good
pub record GivesBad (w : Wanted) (a : Answer) (how : How) : Type 0 where
  pub verdict : (held : Option (List ℕ)) → Shows a (frame_len w) held → ChunkIs w held how
  pub answered : a ≢ answer.Failed

-- this is what the answer gives of the chunk, of row r
abbrev pub FoundFrom : Wanted → ℕ → Answer → Found → Type 0
FoundFrom w r a Unasked = ⊥
FoundFrom w r a (Good payload) = GivesGood w a payload
FoundFrom w r a (Bad Failed) = a ≡ answer.Failed
FoundFrom w r a (Bad (Row q how)) = (q ≡ r) × GivesBad w a how

-- the ask of cloud c for its chunk of row r, where it is one of P
abbrev pub chunk_ask_on : ℕ → List ℕ → Live → ℕ → Clouds → ℕ → Option (ℕ × Key × ℕ)
chunk_ask_on n name m r P c = if P c then Some (chunk_ask n name m r c) else None

-- one of the entries is that of cloud c, and this is what its answer gives
pub record IsFoundFrom (n : ℕ) (name : List ℕ) (m : Live) (r c : ℕ) (all : List Ask) (found : Found) : Type 0 where
  pub ask : Ask
  pub among : Contains all ask
  pub asks : asked ask ≡ chunk_ask n name m r c
  pub from : FoundFrom (wanted_of n name m r c) r ask.answer found

-- a cloud that wasn't asked gave nothing
abbrev pub FoundOn : Bool → ℕ → List ℕ → Live → ℕ → ℕ → List Ask → Found → Type 0
FoundOn true n name m r c all found = IsFoundFrom n name m r c all found
FoundOn false n name m r c all found = found ≡ Unasked

-- this is what the entries give of the first k clouds, of which those of P were asked
pub record AreFound (n : ℕ) (name : List ℕ) (m : Live) (r : ℕ) (P : Clouds) (k : ℕ) (all : List Ask) (founds : List Found) : Type 0 where
  pub long : length founds ≡ k
  pub each : (c : ℕ) → c < k → FoundOn (P c) n name m r c all (found_at founds c)

-- the entries that are left are those of the clouds from c on
pub record AreLeft (n : ℕ) (name : List ℕ) (m : Live) (r : ℕ) (P : Clouds) (c : ℕ) (all left : List Ask) : Type 0 where
  pub asks : map asked left ≡ some_row (chunk_ask_on n name m r P) c (n - c)
  pub among : All (Contains all) left

-- of the first k clouds the table names those that gave a good chunk
pub record NamesGood (founds : List Found) (k : ℕ) (table : List Bool) : Type 0 where
  pub long : length table ≡ 10
  pub each : (c : ℕ) → c < k → slice_index_or table c false ≡ is_good (found_at founds c)
