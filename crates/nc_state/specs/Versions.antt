-- The versions of a file.
use Rattle.std.specs.Option.{option_map_or}
use Rattle.std.specs.Prelude.{ℕ, ◌≡◌, ◌+◌, ◌*◌, ◌<◌, Bool, true, false, Option, None, Some, List, [], IfSome, length, slice_index_or}
use Rattle.sha2.specs.Sha256.{sha256}
use Rattle.nc_bytes.specs.Bytes.{AreBytes}
use Rattle.nc_native.specs.Native.{combination}
use Rattle.nc_code.specs.Codes.{IsMds, IsWitness, code_row}
use Rattle.nc_code.specs.Good.{plan_of}
use Rattle.nc_meta.specs.declared.meta.Live.{Live}
use Rattle.nc_meta.specs.declared.meta.Meta.{Meta}
use Rattle.nc_meta.specs.declared.meta.Meta.TheVariants as meta
use Rattle.nc_meta.specs.Metas.{IsLive, generation_of}
use Rattle.nc_meta.specs.Parts.{IsGeneration}

-- what a name may stand for: nothing yet, a file that was removed in this generation, or a file with its meta and its bytes
pub data Version : Type 0 where
  Never : Version
  Removed : ℕ → Version
  Stored : Live → List ℕ → Version

-- the meta that says so
abbrev pub meta_of : Version → Option Meta
meta_of Never = None
meta_of (Removed generation) = Some (meta.Gone generation)
meta_of (Stored m v) = Some (meta.Live m)

-- the generation; 0 before the first
abbrev pub version_generation : Version → ℕ
version_generation x = option_map_or generation_of (meta_of x) 0

-- the bytes of the file, where there is one
abbrev pub value_of : Version → Option (List ℕ)
value_of Never = None
value_of (Removed generation) = None
value_of (Stored m v) = Some v

-- there is a file
abbrev pub is_stored : Version → Bool
is_stored Never = false
is_stored (Removed generation) = false
is_stored (Stored m v) = true

-- A meta describes a file of these bytes on n clouds: it can be stored, the length is theirs, the code is MDS, the plans that
-- it stores are witnesses, and each mark is the SHA-256 of its row's combination.
pub record IsValidFor (n : ℕ) (m : Live) (v : List ℕ) : Type 0 where
  pub stored : IsLive n m
  pub bytes : AreBytes v
  pub len : m.len ≡ length v
  pub mds : IsMds m.code
  pub witnesses : IfSome m.witnesses (λ w. (lost : ℕ) → lost < n → IsWitness m.code lost (plan_of w lost))
  pub marks : (c r : ℕ) → c < n → r < 2 → slice_index_or m.marks (2 * c + r) [] ≡ sha256 (combination (code_row m.code c r) v n)

abbrev pub IsValid : ℕ → Version → Type 0
IsValid n Never = Unit {0}
IsValid n (Removed generation) = IsGeneration generation
IsValid n (Stored m v) = IsValidFor n m v
