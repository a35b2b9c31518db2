-- What the check of a code answers.
use Rattle.std.specs.Prelude.{ℕ, ◌≡◌, ◌≢◌, ◌+◌, ◌<◌, List, nat_lt, slice_index, if◌then◌else◌}
use Rattle.nc_bytes.specs.Bytes.{AreBytes, IsZeroPast}
use Rattle.nc_gf256.specs.Rows.{dot}
use Rattle.nc_gf256.specs.Width.{native_count}
use Rattle.nc_code.specs.Parts.{CodeParts}
use Rattle.nc_code.specs.Codes.{IsMds, IsPairMds, IsRowWithout}
use Rattle.nc_mds.specs.declared.verdict.Verdict.{Verdict}
use Rattle.nc_mds.specs.declared.verdict.Verdict.TheVariants.{Mds, Fails}

-- The vector shows that the rows of the clouds other than a and b are dependent: each sends it to 0, and it isn't all 0.
pub record ShowsDependent (code : CodeParts) (a b : ℕ) (v : List ℕ) : Type 0 where
  pub place : ℕ
  pub within : place < native_count code.width
  pub not_zero : slice_index v place ≢ 0
  pub zero_past : IsZeroPast (native_count code.width) v
  pub bytes : AreBytes v
  pub sent : (row : List ℕ) → IsRowWithout code a b row → dot (native_count code.width) row v ≡ 0

-- b is the least cloud above a whose loss with a leaves dependent rows
pub record IsFirstAfter (code : CodeParts) (a b : ℕ) (v : List ℕ) : Type 0 where
  pub less : a < b
  pub in_width : b < code.width
  pub shown : ShowsDependent code a b v
  pub between : (d : ℕ) → a < d → d < b → IsPairMds code a d

-- (a, b) is the least pair whose loss leaves dependent rows, by a and then by b
pub record IsFirstPair (code : CodeParts) (a b : ℕ) (v : List ℕ) : Type 0 where
  pub first : IsFirstAfter code a b v
  pub before : (c d : ℕ) → c < a → c < d → d < code.width → IsPairMds code c d

abbrev pub IsVerdict : CodeParts → Verdict → Type 0
IsVerdict code Mds = IsMds code
IsVerdict code (Fails a b kernel) = IsFirstPair code a b kernel

-- the cloud at position p among those other than a and b, where a is below b
abbrev pub other_cloud : ℕ → ℕ → ℕ → ℕ
other_cloud a b p = if nat_lt p a then p else if nat_lt (p + 1) b then p + 1 else p + 2

-- the code isn't MDS
abbrev pub IsFails : Verdict → Type 0
IsFails Mds = ⊥
IsFails (Fails a b kernel) = Unit {0}
