-- How a file is cut into native chunks, and what a combination of them is.
use Rattle.std.specs.Prelude.{ℕ, ◌≡◌, ◌+◌, ◌*◌, ◌/◌, ◌<◌, List, [], length, map, drop, max, slice_index, slice_index_or}
use Rattle.std.specs.Borrow.{Bor}
use Rattle.std.specs.List.{range_with_len}
use Rattle.std.specs.Int.{div_ceil}
use Rattle.nc_gf256.specs.Field.{mul, total}
use Rattle.nc_gf256.specs.Width.{native_count}

-- the bytes of each chunk of a file of so many bytes
abbrev pub chunk_size : ℕ → ℕ → ℕ
chunk_size len n = div_ceil len (native_count n)

-- size bytes of v from start on; a byte past the end is 0
unfoldable pub piece : List ℕ → ℕ → ℕ → List ℕ
piece v start size = map (λ p. slice_index v (start + p)) (range_with_len 0 size)

-- native chunk i of the file v
abbrev pub native : List ℕ → ℕ → ℕ → List ℕ
native v n i = piece v (i * chunk_size (length v) n) (chunk_size (length v) n)

abbrev pub natives_of : List ℕ → ℕ → List (List ℕ)
natives_of v n = map (native v n) (range_with_len 0 (native_count n))

-- how many natives lie wholly in a file of so many bytes: none, where it is empty
abbrev pub whole_count : ℕ → ℕ → ℕ
whole_count len n = len / max (chunk_size len n) 1

-- the natives that the file doesn't fill, in order
abbrev pub tail_of : List ℕ → ℕ → List (List ℕ)
tail_of v n = drop (whole_count (length v) n) (natives_of v n)

-- the lists behind references
abbrev pub lent : List (Bor (List ℕ)) → List (List ℕ)
lent sources = map (λ s. s.now) sources

-- byte p is the sum, over the natives i, of row[i] times byte p of native i
unfoldable pub combination : List ℕ → List ℕ → ℕ → List ℕ
combination row v n =
    map (λ p. total (native_count n) (λ i. mul (slice_index row i) (slice_index (native v n i) p))) (range_with_len 0 (chunk_size (length v) n))

-- the length of the natives, which is that of the first
abbrev pub native_len : List (List ℕ) → ℕ
native_len natives = length (slice_index_or natives 0 [])

-- each list has this length
abbrev pub AllLong : ℕ → List (List ℕ) → Type 0
AllLong size lists = (i : ℕ) → i < length lists → length (slice_index_or lists i []) ≡ size
