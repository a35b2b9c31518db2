-- Numbers as bytes.
use Rattle.std.proofs.Common.{arith, refl, sym, ap, ◌∙◌}
use Rattle.std.proofs.lemmas.Nat.{from_be_bytes-to_be_bytes_2, from_be_bytes-to_be_bytes_8}
use Rattle.std.specs.Prelude.{ℕ, zero, suc, ◌≡◌, ◌<◌, ◌^◌, length}
use Rattle.std.specs.Int.{w16, w64, from_be_bytes, bytes_high_first, byte_at}
use Rattle.nc_bytes.proofs.Places.{cons_bytes, no_bytes}
use Rattle.nc_bytes.specs.Bytes.{AreBytes, bytes_2, bytes_8}

pub length-bytes_2 : (n : ℕ) → length (bytes_2 n) ≡ 2
unfolding bytes_2
length-bytes_2 n = refl

pub length-bytes_8 : (n : ℕ) → length (bytes_8 n) ≡ 8
unfolding bytes_8
length-bytes_8 n = refl

-- numbers of the same bytes are the same
pub bytes_2-same : (a b : ℕ) → a < 2 ^ 16 → b < 2 ^ 16 → bytes_2 a ≡ bytes_2 b → a ≡ b
unfolding bytes_2
bytes_2-same a b a_fits b_fits e = sym (from_be_bytes-to_be_bytes_2 a a_fits) ∙ ap (from_be_bytes w16) e ∙ from_be_bytes-to_be_bytes_2 b b_fits

pub bytes_8-same : (a b : ℕ) → a < 2 ^ 64 → b < 2 ^ 64 → bytes_8 a ≡ bytes_8 b → a ≡ b
unfolding bytes_8
bytes_8-same a b a_fits b_fits e = sym (from_be_bytes-to_be_bytes_8 a a_fits) ∙ ap (from_be_bytes w64) e ∙ from_be_bytes-to_be_bytes_8 b b_fits

byte_small : (k n : ℕ) → byte_at k n < 256
byte_small zero n = omega arith
byte_small (suc k) n = omega arith

high_first_bytes : (k n : ℕ) → AreBytes (bytes_high_first k n)
high_first_bytes zero n = no_bytes
high_first_bytes (suc k) n = cons_bytes (byte_at k n) (bytes_high_first k n) (byte_small k n) (high_first_bytes k n)

pub bytes_8_bytes : (n : ℕ) → AreBytes (bytes_8 n)
unfolding bytes_8
bytes_8_bytes n = high_first_bytes 8 n
