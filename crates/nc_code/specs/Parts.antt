-- What codes and plans are made of.
use Rattle.std.specs.Prelude.{ℕ, ◌≡◌, ◌*◌, ◌<◌, ◌≤◌, List, [], length, slice_index, slice_index_or}
use Rattle.nc_bytes.specs.Bytes.{AreBytes, IsZeroPast, AreZeroPast}
use Rattle.nc_gf256.specs.Width.{native_count}

-- a code: row r of cloud c is row 2c + r
pub record CodeParts : Type 0 where
  pub width : ℕ
  pub rows : List (List ℕ)

-- a plan, by cloud: which of its two chunks it gives, and the factors of that chunk in the two new ones
pub record PlanParts : Type 0 where
  pub choice : List ℕ
  pub coefs : List (List ℕ)

-- so many bytes
pub record IsRow (width : ℕ) (row : List ℕ) : Type 0 where
  pub long : length row ≡ width
  pub bytes : AreBytes row

-- so many rows of so many bytes
pub record IsTable (rows width : ℕ) (table : List (List ℕ)) : Type 0 where
  pub count : length table ≡ rows
  pub widths : (i : ℕ) → i < rows → length (slice_index_or table i []) ≡ width
  pub bytes : (i : ℕ) → AreBytes (slice_index_or table i [])

-- what the type of codes keeps: a width of 4 to 10, and zeros past its natives and past its clouds
pub record IsCode (code : CodeParts) : Type 0 where
  pub wide : 4 ≤ code.width
  pub narrow : code.width ≤ 10
  pub shape : IsTable 20 16 code.rows
  pub zero_past : (i : ℕ) → IsZeroPast (native_count code.width) (slice_index_or code.rows i [])
  pub rows_past : AreZeroPast (2 * code.width) code.rows

-- what the type of plans keeps: a choice is 0 or 1
pub record IsPlan (plan : PlanParts) : Type 0 where
  pub choice_count : length plan.choice ≡ 10
  pub choices : (t : ℕ) → slice_index plan.choice t < 2
  pub shape : IsTable 2 10 plan.coefs
