-- Lists of bytes, their parts, and numbers as bytes.
use Rattle.std.specs.Prelude.{ℕ, ◌≡◌, ◌-◌, ◌<◌, ◌≤◌, List, [], ◌++◌, length, replicate, slice_index, slice_index_or, take, drop}
use Rattle.std.specs.Int.{w16, w64, to_be_bytes}

-- a byte is a number below 256
abbrev pub AreBytes : List ℕ → Type 0
AreBytes xs = (i : ℕ) → slice_index xs i < 256

-- what isn't stored is 0: a list from place n on
abbrev pub IsZeroPast : ℕ → List ℕ → Type 0
IsZeroPast n xs = (k : ℕ) → n ≤ k → slice_index xs k ≡ 0

-- and the rows of a table from row n on
abbrev pub AreZeroPast : ℕ → List (List ℕ) → Type 0
AreZeroPast n rows = (i k : ℕ) → n ≤ i → slice_index (slice_index_or rows i []) k ≡ 0

-- n bytes from place at on
abbrev pub part : ℕ → ℕ → List ℕ → List ℕ
part at n bytes = take n (drop at bytes)

-- the bytes, and zeros up to this size
abbrev pub padded : ℕ → List ℕ → List ℕ
padded size bytes = bytes ++ replicate (size - length bytes) 0

-- a number in 2 and in 8 bytes, the high byte first (network order)
unfoldable pub bytes_2 : ℕ → List ℕ
bytes_2 n = to_be_bytes w16 n

unfoldable pub bytes_8 : ℕ → List ℕ
bytes_8 n = to_be_bytes w64 n
