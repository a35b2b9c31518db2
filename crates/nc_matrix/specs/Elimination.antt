-- Elimination in one table [a | identity] of 2n columns: what each step keeps.
use Rattle.std.specs.Prelude.{ℕ, ◌≡◌, ◌≢◌, ◌+◌, ◌<◌, ◌≤◌, ◌==◌, if◌then◌else◌, List, slice_index, bit_xor}
use Rattle.nc_gf256.specs.Field.{mul}
use Rattle.nc_gf256.specs.Rows.{unit}
use Rattle.nc_matrix.specs.Cells.{entry}
use Rattle.nc_matrix.specs.Products.{IsVector, times}

-- the first n rows are bytes
abbrev pub AreRows : ℕ → List (List ℕ) → Type 0
AreRows n rows = (i k : ℕ) → i < n → entry rows i k < 256

-- every row sends the vector of 2n bytes to 0
abbrev pub Solves : ℕ → List (List ℕ) → (ℕ → ℕ) → Type 0
Solves n rows z = (i : ℕ) → i < n → times (n + n) rows i z ≡ 0

-- two tables send the same vectors to 0
pub record SameSolutions (n : ℕ) (a b : List (List ℕ)) : Type 0 where
  pub forth : (z : ℕ → ℕ) → IsVector (n + n) z → Solves n a z → Solves n b z
  pub back : (z : ℕ → ℕ) → IsVector (n + n) z → Solves n b z → Solves n a z

-- the first c columns are those of the identity
abbrev pub IsReduced : ℕ → ℕ → List (List ℕ) → Type 0
IsReduced n c rows = (i k : ℕ) → i < n → k < c → entry rows i k ≡ unit i k

-- c columns of a table are done
pub record IsStep (n c : ℕ) (a b : List (List ℕ)) : Type 0 where
  pub rows : AreRows n b
  pub same : SameSolutions n a b
  pub reduced : IsReduced n c b

-- the table of a square a of size n with the identity beside it
pub record IsAugmented (n : ℕ) (a wide : List (List ℕ)) : Type 0 where
  pub rows : AreRows n wide
  pub left : (i k : ℕ) → i < n → k < n → entry wide i k ≡ entry a i k
  pub right : (i k : ℕ) → i < n → k < n → entry wide i (n + k) ≡ unit i k

-- to each row i is added t i times row j
abbrev pub IsSheared : ℕ → ℕ → (ℕ → ℕ) → List (List ℕ) → List (List ℕ) → Type 0
IsSheared n j t a b = (i k : ℕ) → i < n → entry b i k ≡ bit_xor (entry a i k) (mul (t i) (entry a j k))

-- row c is multiplied by t, and the other rows stay
pub record IsScaled (n c t : ℕ) (a b : List (List ℕ)) : Type 0 where
  pub here : (k : ℕ) → entry b c k ≡ mul t (entry a c k)
  pub others : (i k : ℕ) → i < n → i ≢ c → entry b i k ≡ entry a i k

-- row p is the first from c on whose entry in column c isn't 0
pub record IsPivot (n c : ℕ) (rows : List (List ℕ)) (p : ℕ) : Type 0 where
  pub from : c ≤ p
  pub below : p < n
  pub found : entry rows p c ≢ 0
  pub first : (i : ℕ) → c ≤ i → i < p → entry rows i c ≡ 0

-- row c is multiplied by the byte that makes its entry in column c a 1
pub record IsNormalized (n c : ℕ) (a b : List (List ℕ)) : Type 0 where
  pub multiple : ℕ
  pub byte : multiple < 256
  pub scaled : IsScaled n c multiple a b
  pub one : entry b c c ≡ 1

-- a vector is read off column c: its first c entries, then 1, then 0
pub record IsReadOff (c : ℕ) (rows : List (List ℕ)) (v : List ℕ) : Type 0 where
  pub read : (k : ℕ) → k < c → slice_index v k ≡ entry rows k c
  pub one : slice_index v c ≡ 1
  pub zero_past : (k : ℕ) → c < k → slice_index v k ≡ 0

-- the multiple of row c that clears row i in column c; none for row c
abbrev pub clearing : ℕ → List (List ℕ) → ℕ → ℕ
clearing c rows i = if i == c then 0 else entry rows i c

-- the multiple of row p that puts a non-zero entry into row c
abbrev pub lifting : ℕ → ℕ → ℕ → ℕ
lifting c p i = if p == c then 0 else unit c i
