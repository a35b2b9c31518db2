-- The clouds that give chunks to a file, and those that don't.
use Rattle.std.specs.Prelude.{ℕ, ◌<◌, Option, List}
use Rattle.nc_native.specs.Native.{combination}
use Rattle.nc_code.specs.Codes.{code_row}
use Rattle.nc_cloud.specs.Contents.{Contents}
use Rattle.nc_meta.specs.declared.meta.Live.{Live}
use Rattle.nc_download.specs.declared.short.How.{How}
use Rattle.nc_download.specs.Chunks.{wanted_of, ChunkIs, HoldsPayload, IsGoodChunk}

-- what cloud c holds where its chunk of row r is to stand
abbrev pub held_at : ℕ → List ℕ → Live → Contents → ℕ → ℕ → Option (List ℕ)
held_at n name m F c r = F c (wanted_of n name m r c).key

-- the chunk of row r of cloud c is good, with this payload
abbrev pub IsGoodRow : ℕ → List ℕ → Live → Contents → ℕ → ℕ → List ℕ → Type 0
IsGoodRow n name m F c r payload = IsGoodChunk (wanted_of n name m r c) (held_at n name m F c r) payload

-- the chunk of row r of cloud c isn't good
abbrev pub IsBadRow : ℕ → List ℕ → Live → Contents → ℕ → ℕ → How → Type 0
IsBadRow n name m F c r how = ChunkIs (wanted_of n name m r c) (held_at n name m F c r) how

-- both chunks of cloud c are good, with these payloads
pub record AreGoodRows (n : ℕ) (name : List ℕ) (m : Live) (F : Contents) (c : ℕ) (zero one : List ℕ) : Type 0 where
  pub first : IsGoodRow n name m F c 0 zero
  pub second : IsGoodRow n name m F c 1 one

-- cloud c is good
pub record IsGoodCloud (n : ℕ) (name : List ℕ) (m : Live) (F : Contents) (c : ℕ) : Type 0 where
  pub zero : List ℕ
  pub one : List ℕ
  pub rows : AreGoodRows n name m F c zero one

-- the first chunk of cloud c that isn't good is that of row r
pub record IsFirstBad (n : ℕ) (name : List ℕ) (m : Live) (F : Contents) (c r : ℕ) (how : How) : Type 0 where
  pub pair : r < 2
  pub before : (q : ℕ) → q < r → (payload : List ℕ) × IsGoodRow n name m F c q payload
  pub here : IsBadRow n name m F c r how

-- the chunk of the file v that row r of cloud c gives
abbrev pub chunk_of : ℕ → Live → List ℕ → ℕ → ℕ → List ℕ
chunk_of n m v r c = combination (code_row m.code c r) v n

-- cloud c holds both chunks of the file v
pub record HoldsChunksOf (n : ℕ) (name : List ℕ) (m : Live) (v : List ℕ) (F : Contents) (c : ℕ) : Type 0 where
  pub row : (r : ℕ) → r < 2 → HoldsPayload (wanted_of n name m r c) (held_at n name m F c r) (chunk_of n m v r c)
