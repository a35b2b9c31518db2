-- What a name is, and why a text is none.
use Rattle.std.specs.Prelude.{ℕ, ◌≡◌, ◌<◌, ◌≤◌, Bool, true, false, nat_lt, ◌||◌, ◌==◌, List, length, slice_index, IsUtf8}
use Rattle.nc_bytes.specs.Bytes.{AreBytes}
use Rattle.nc_name.specs.declared.name.NameFault.{NameFault}
use Rattle.nc_name.specs.declared.name.NameFault.TheVariants.{Empty, Long, Control}

-- the bytes that no name holds: below 0x20, and 0x7F (the control characters of ASCII, RFC 20)
abbrev pub is_control : ℕ → Bool
is_control b = nat_lt b 0x20 || b == 0x7F

-- 1 to 100 bytes of UTF-8 without a control character
pub record IsName (bytes : List ℕ) : Type 0 where
  pub not_empty : 1 ≤ length bytes
  pub short : length bytes ≤ 100
  pub text : IsUtf8 bytes
  pub are_bytes : AreBytes bytes
  pub plain : (i : ℕ) → i < length bytes → is_control (slice_index bytes i) ≡ false

-- a control character stands at this place, and none before it
pub record IsFirstControl (bytes : List ℕ) (at : ℕ) : Type 0 where
  pub within : at < length bytes
  pub here : is_control (slice_index bytes at) ≡ true
  pub before : (i : ℕ) → i < at → is_control (slice_index bytes i) ≡ false

-- the first cause, in this order, why a text is no name
abbrev pub RefusesName : List ℕ → NameFault → Type 0
RefusesName text Empty = length text ≡ 0
RefusesName text (Long len) = (len ≡ length text) × (100 < length text)
RefusesName text (Control at) = (1 ≤ length text) × (length text ≤ 100) × IsFirstControl text at
