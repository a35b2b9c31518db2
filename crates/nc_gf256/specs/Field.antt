-- The field of 256 elements: the polynomials over two elements modulo x^8+x^4+x^3+x^2+1 (0x11D).
-- A byte's bit i is the coefficient of x^i. Addition is exclusive or.
use Rattle.std.specs.Prelude.{ℕ, ◌*◌, ◌/◌, ◌%◌, ◌==◌, nat_lt, zero, suc, bit_xor, if◌then◌else◌}

-- the byte times x
abbrev pub double : ℕ → ℕ
double a = if nat_lt a 128 then 2 * a else bit_xor (2 * a) 0x11D

-- a where b is odd, else 0
abbrev pub if_odd : ℕ → ℕ → ℕ
if_odd b a = if b % 2 == 1 then a else 0

-- the product by a second factor of at most so many bits
abbrev pub mul_bits : ℕ → ℕ → ℕ → ℕ
mul_bits zero a b = 0
mul_bits (suc bits) a b = bit_xor (mul_bits bits (double a) (b / 2)) (if_odd b a)

-- the product of two bytes
unfoldable pub mul : ℕ → ℕ → ℕ
mul a b = mul_bits 8 a b

-- the sum of the first n terms; a sum of none is 0
unfoldable pub total : ℕ → (ℕ → ℕ) → ℕ
total zero term = 0
total (suc n) term = bit_xor (total n term) (term n)
