-- The pieces that a file comes back from, and what they give.
use Rattle.std.specs.Prelude.{ℕ, ◌≡◌, ◌+◌, ◌*◌, ◌<◌, List, [], ◌∷◌, length, map, slice_index_or, take}
use Rattle.std.specs.List.{All, AllPairs, concat}
use Rattle.nc_bytes.specs.Bytes.{AreBytes}
use Rattle.nc_native.specs.Native.{AllLong, chunk_size, combination}
use Rattle.nc_code.specs.Parts.{CodeParts}
use Rattle.nc_code.specs.Codes.{IsMds, code_row}
use Rattle.nc_gf256.specs.Width.{native_count}
use Rattle.nc_matrix.specs.Inverted.{IsInverse}
use Rattle.nc_mix.specs.declared.pieces.Piece.{Piece}
use Rattle.nc_mix.specs.Mixing.{mixed}

-- the chunks are the combinations of the file v by the rows of their cloud
pub record IsPieceOf (code : CodeParts) (v : List ℕ) (piece : Piece) : Type 0 where
  pub zero : piece.zero ≡ combination (code_row code piece.cloud 0) v code.width
  pub one : piece.one ≡ combination (code_row code piece.cloud 1) v code.width

-- the chunks are the combinations of these natives, of so many bytes each, by the rows of their cloud
pub record IsMixOf (code : CodeParts) (size : ℕ) (natives : List (List ℕ)) (piece : Piece) : Type 0 where
  pub zero : piece.zero ≡ mixed size (code_row code piece.cloud 0) natives
  pub one : piece.one ≡ mixed size (code_row code piece.cloud 1) natives

-- natives of a file of `len` bytes whose combinations by the rows of the pieces' clouds are the pieces
pub record Solves (code : CodeParts) (len : ℕ) (pieces : List Piece) (natives : List (List ℕ)) : Type 0 where
  pub count : length natives ≡ native_count code.width
  pub long : AllLong (chunk_size len code.width) natives
  pub bytes : (i : ℕ) → AreBytes (slice_index_or natives i [])
  pub mixes : All (IsMixOf code (chunk_size len code.width) natives) pieces

-- the first `len` bytes of the natives that solve the pieces; no others do
pub record IsSolution (code : CodeParts) (len : ℕ) (pieces : List Piece) (file : List ℕ) : Type 0 where
  pub natives : List (List ℕ)
  pub solve : Solves code len pieces natives
  pub only : (others : List (List ℕ)) → Solves code len pieces others → others ≡ natives
  pub first : file ≡ take len (concat natives)

-- both chunks have so many bytes
pub record IsLong (size : ℕ) (piece : Piece) : Type 0 where
  pub zero : length piece.zero ≡ size
  pub one : length piece.one ≡ size

-- both chunks are bytes
pub record HoldsBytes (piece : Piece) : Type 0 where
  pub zero : AreBytes piece.zero
  pub one : AreBytes piece.one

-- the first piece is of a lower cloud
abbrev pub IsBefore : Piece → Piece → Type 0
IsBefore a b = a.cloud < b.cloud

-- a file of `len` bytes comes back from the pieces: they are of n - 2 of n clouds, in ascending order, with chunks of the size of its
-- chunks, and the code is MDS
pub record AreEnough (code : CodeParts) (len : ℕ) (pieces : List Piece) : Type 0 where
  pub mds : IsMds code
  pub count : length pieces + 2 ≡ code.width
  pub ascending : AllPairs IsBefore pieces
  pub in_width : All (λ x. x.cloud < code.width) pieces
  pub long : All (IsLong (chunk_size len code.width)) pieces

-- what comes back: the solution, of so many bytes, which is each file whose combinations the pieces are
pub record IsDecoded (code : CodeParts) (len : ℕ) (pieces : List Piece) (file : List ℕ) : Type 0 where
  pub solved : IsSolution code len pieces file
  pub long : length file ≡ len
  pub is_file : (v : List ℕ) → AreBytes v → length v ≡ len → All (IsPieceOf code v) pieces → file ≡ v

-- the chunks of all pieces in order
abbrev pub chunks_in : List Piece → List (List ℕ)
chunks_in [] = []
chunks_in (x ∷ xs) = x.zero ∷ x.one ∷ chunks_in xs

-- row 2p + r of the table is row r of the cloud of piece p
pub record HoldsRows (code : CodeParts) (pieces : List Piece) (table : List (List ℕ)) : Type 0 where
  pub each : (p r : ℕ) (d : Piece) → p < length pieces → r < 2 → slice_index_or table (2 * p + r) [] ≡ code_row code (slice_index_or pieces p d).cloud r

-- the mixes of the sources by the rows, one after another
abbrev pub solved : ℕ → List (List ℕ) → List (List ℕ) → List ℕ
solved size sources rows = concat (map (λ row. mixed size row sources) rows)

-- b is the inverse of the square of the pieces' rows
pub record Inverts (code : CodeParts) (pieces : List Piece) (b : List (List ℕ)) : Type 0 where
  pub rows : List (List ℕ)
  pub holds : HoldsRows code pieces rows
  pub inverse : IsInverse (native_count code.width) rows b
