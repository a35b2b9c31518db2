-- What the inversion of a square answers.
use Rattle.std.specs.Prelude.{ℕ, ◌≡◌, ◌≢◌, ◌<◌, ◌≤◌, List, slice_index}
use Rattle.nc_bytes.specs.Bytes.{AreBytes}
use Rattle.nc_gf256.specs.Rows.{Independent, unit}
use Rattle.nc_matrix.specs.declared.outcome.Outcome.{Outcome}
use Rattle.nc_matrix.specs.declared.outcome.Outcome.TheVariants.{Inverse, Kernel}
use Rattle.nc_matrix.specs.Cells.{row_of, entry}
use Rattle.nc_matrix.specs.Products.{IsVector, times}

-- the list is one of the first n rows of the table
abbrev pub IsRowAmong : ℕ → List (List ℕ) → List ℕ → Type 0
IsRowAmong n rows row = (i : ℕ) × (i < n) × (row ≡ row_of rows i)

-- b is the inverse of a, on both sides, both of size n; so a x = y says that x = b y
pub record IsInverse (n : ℕ) (a b : List (List ℕ)) : Type 0 where
  pub right : (i k : ℕ) → i < n → k < n → times n a i (λ j. entry b j k) ≡ unit i k
  pub left : (i k : ℕ) → i < n → k < n → times n b i (λ j. entry a j k) ≡ unit i k
  pub into : (x y : ℕ → ℕ) → IsVector n x → IsVector n y → ((i : ℕ) → i < n → times n a i x ≡ y i) → (i : ℕ) → i < n → x i ≡ times n b i y
  pub out_of : (x y : ℕ → ℕ) → IsVector n x → IsVector n y → ((i : ℕ) → i < n → x i ≡ times n b i y) → (i : ℕ) → i < n → times n a i x ≡ y i
  pub bytes : (i k : ℕ) → entry b i k < 256
  pub independent : Independent n (IsRowAmong n a)

-- v is a vector of n bytes, not all 0, that every row sends to 0; so the rows are dependent
pub record IsKernel (n : ℕ) (a : List (List ℕ)) (v : List ℕ) : Type 0 where
  pub place : ℕ
  pub within : place < n
  pub not_zero : slice_index v place ≢ 0
  pub zero_past : (k : ℕ) → n ≤ k → slice_index v k ≡ 0
  pub bytes : AreBytes v
  pub sent : (i : ℕ) → i < n → times n a i (λ k. slice_index v k) ≡ 0
  pub dependent : Independent n (IsRowAmong n a) → ⊥

-- the answer is right for a square of size n with these entries
abbrev pub IsInverted : ℕ → List (List ℕ) → Outcome → Type 0
IsInverted n a (Inverse b) = (b.size ≡ n) × IsInverse n a b.cells
IsInverted n a (Kernel v) = IsKernel n a v
