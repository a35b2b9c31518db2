-- Sums of multiples of byte lists.
use Rattle.std.specs.Prelude.{ℕ, ◌≡◌, ◌+◌, ◌*◌, ◌<◌, List, [], bit_xor, length, map, slice_index, slice_index_or}
use Rattle.std.specs.List.{range_with_len}
use Rattle.nc_gf256.specs.Field.{mul, total}
use Rattle.nc_native.specs.Native.{combination, native_len}
pub use Rattle.nc_native.specs.Native.{lent}
use Rattle.nc_code.specs.Parts.{CodeParts}
use Rattle.nc_code.specs.Codes.{code_row}

-- byte p of the sum of the first so many sources, each times its entry of the row
abbrev pub mixed_byte : ℕ → List ℕ → List (List ℕ) → ℕ → ℕ
mixed_byte count row sources p = total count (λ i. mul (slice_index row i) (slice_index (slice_index_or sources i []) p))

-- the sum of the sources of so many bytes, each times its entry of the row
unfoldable pub mixed : ℕ → List ℕ → List (List ℕ) → List ℕ
mixed size row sources = map (mixed_byte (length sources) row sources) (range_with_len 0 size)

-- so many bytes of a mix from start on
unfoldable pub mixed_part : ℕ → ℕ → List ℕ → List (List ℕ) → List ℕ
mixed_part start count row sources = map (mixed_byte (length sources) row sources) (range_with_len start count)

-- the same part of the mix by each row
abbrev pub mixed_parts : ℕ → ℕ → List (List ℕ) → List (List ℕ) → List (List ℕ)
mixed_parts start count rows sources = map (λ row. mixed_part start count row sources) rows

-- chunk k is the mix of the natives by row k
abbrev pub chunk_by : List (List ℕ) → List (List ℕ) → ℕ → List ℕ
chunk_by rows natives k = mixed (native_len natives) (slice_index_or rows k []) natives

abbrev pub chunks_of : ℕ → List (List ℕ) → List (List ℕ) → List (List ℕ)
chunks_of count rows natives = map (chunk_by rows natives) (range_with_len 0 count)

-- there are two chunks for each cloud, and chunk 2c + r is the combination of the file v by row r of cloud c
pub record AreChunksOf (code : CodeParts) (v : List ℕ) (chunks : List (List ℕ)) : Type 0 where
  pub count : length chunks ≡ 2 * code.width
  pub each : (c r : ℕ) → c < code.width → r < 2 → slice_index_or chunks (2 * c + r) [] ≡ combination (code_row code c r) v code.width

-- a factor times the source from start on is added
abbrev pub HasMultiples : ℕ → List ℕ → ℕ → List ℕ → List ℕ → Type 0
HasMultiples factor source start old new = (p : ℕ) → p < length old → slice_index new p ≡ bit_xor (slice_index old p) (mul factor (slice_index source (start + p)))

-- the mix of the first so many sources from start on is added
abbrev pub HasAdded : ℕ → List ℕ → List (List ℕ) → ℕ → List ℕ → List ℕ → Type 0
HasAdded count row sources start old new = (p : ℕ) → p < length old → slice_index new p ≡ bit_xor (slice_index old p) (mixed_byte count row sources (start + p))
