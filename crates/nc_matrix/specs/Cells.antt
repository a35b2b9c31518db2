-- Tables of bytes as lists of rows.
use Rattle.std.specs.Prelude.{ℕ, List, [], slice_index, slice_index_or}

-- row i of a table, empty past its end
abbrev pub row_of : List (List ℕ) → ℕ → List ℕ
row_of rows i = slice_index_or rows i []

-- the entry in row i and column k, 0 where there is none
abbrev pub entry : List (List ℕ) → ℕ → ℕ → ℕ
entry rows i k = slice_index (row_of rows i) k
