-- Rows of bytes.
use Rattle.std.proofs.Common.{◌≡◌, ℕ, ◌<◌, ◌≤◌, List, length, slice_index, slice_set, arith, inl, inr, get_or-set_other, get_or-set_same}
use Rattle.std.proofs.lemmas.Bool.{cases_lt, cases_eq}
use Rattle.nc_bytes.specs.Bytes.{AreBytes}

-- a row whose first n places are bytes, and 0 the rest
pub front_bytes : (xs : List ℕ) (n : ℕ) → ((i : ℕ) → i < n → slice_index xs i < 256) → ((i : ℕ) → n ≤ i → slice_index xs i ≡ 0) → AreBytes xs
front_bytes xs n front past i = elim (cases_lt i n) [
  | inl lt ↦ front i lt
  | inr le ↦ rw (past i le) (omega arith)
]

pub set_bytes : (xs : List ℕ) (p x : ℕ) → p < length xs → x < 256 → AreBytes xs → AreBytes (slice_set xs p x)
set_bytes xs p x within byte bytes i = elim (cases_eq i p) [
  | inl e ↦ rw (e, get_or-set_same) byte
  | inr ne ↦ rw get_or-set_other (bytes i)
]
