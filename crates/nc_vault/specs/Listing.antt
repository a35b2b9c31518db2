-- The rows of a list of files.
use Rattle.std.specs.Prelude.{ℕ, ◌≡◌, ◌<◌, ◌≤◌, ◌++◌, true, false, Option, None, Some, List, [], ◌∷◌}
use Rattle.nc_state.specs.Clouds.{Clouds, count_of}
use Rattle.nc_vault.specs.declared.reply.FileRow.{FileRow}

-- the row of a name that has a file of this length; none where there is no file
abbrev pub row_of : List ℕ → Option ℕ → List FileRow
row_of name (Some len) = record { len = len; name = name } ∷ []
row_of name None = []

-- the rows of names and lengths, in their order
abbrev pub rows_of : List (List ℕ) → List (Option ℕ) → List FileRow
rows_of [] lens = []
rows_of (name ∷ names) [] = []
rows_of (name ∷ names) (len ∷ lens) = row_of name len ++ rows_of names lens

-- of n clouds three or more are of X, and c is the least of them
pub record IsLeastOfThree (n : ℕ) (X : Clouds) (c : ℕ) : Type 0 where
  pub in_width : c < n
  pub one : X c ≡ true
  pub three : 3 ≤ count_of n X
  pub before : (d : ℕ) → d < c → X d ≡ false
