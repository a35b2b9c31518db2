-- The laws of the field, over numbers below 256.
use Rattle.std.proofs.Common.{◌≡◌, ℕ, zero, suc, ◌+◌, ◌*◌, ◌/◌, ◌%◌, ◌^◌, ◌<◌, ◌==◌, true, false, cond, refl, sym, ap, ◌∙◌, arith, if◌then◌else◌}
use Rattle.std.proofs.lemmas.Nat.{pow_below}
use lib.Bits.{bit_xor, xor_self, xor_zero_r, xor_lt, xor_shr, xor_mod, xor_block}
use Rattle.nc_gf256.specs.Field.{double, mul_bits, mul}
use Rattle.nc_gf256.proofs.Cases.{all_below, all_below_at, same_below, bounded_below}
use Rattle.nc_gf256.proofs.Adding.{Adds, same_of_powers, xor_swap}

-- what is added where the doubled byte has a ninth bit
reduction : ℕ → ℕ
reduction zero = 0
reduction (suc _) = 0x11D

reduction-xor : (p q : ℕ) → p < 2 → q < 2 → reduction (bit_xor p q) ≡ bit_xor (reduction p) (reduction q)
unfolding reduction
reduction-xor zero q lp lq = refl
reduction-xor (suc zero) zero lp lq = refl
reduction-xor (suc zero) (suc zero) lp lq = refl
reduction-xor (suc zero) (suc (suc q)) lp lq = absurd (omega arith)
reduction-xor (suc (suc p)) q lp lq = absurd (omega arith)

twice-xor : (x y : ℕ) → 2 * bit_xor x y ≡ bit_xor (2 * x) (2 * y)
twice-xor x y =
    let e : bit_xor (x * 2 + 0) (y * 2 + 0) ≡ bit_xor x y * 2 + 0 = xor_block 1 x y 0 0 (omega arith) (omega arith) in
    let ex : x * 2 + 0 ≡ 2 * x = omega arith in
    let ey : y * 2 + 0 ≡ 2 * y = omega arith in
    let ez : 2 * bit_xor x y ≡ bit_xor x y * 2 + 0 = omega arith in
    ez ∙ sym e ∙ ap (λ k. bit_xor k (y * 2 + 0)) ex ∙ ap (bit_xor (2 * x)) ey

double_is : (x : ℕ) → x < 256 → double x ≡ bit_xor (2 * x) (reduction (x / 128))
unfolding reduction
double_is = same_below 256 double (λ x. bit_xor (2 * x) (reduction (x / 128))) refl

pub double-xor : (x y : ℕ) → x < 256 → y < 256 → double (bit_xor x y) ≡ bit_xor (double x) (double y)
double-xor x y lx ly =
    let halves : reduction (bit_xor x y / 128) ≡ bit_xor (reduction (x / 128)) (reduction (y / 128)) =
    ap reduction (xor_shr x y 7) ∙ reduction-xor (x / 128) (y / 128) (omega arith) (omega arith) in
    double_is (bit_xor x y) (xor_lt 8 x y lx ly)
    ∙ ap (λ k. bit_xor k (reduction (bit_xor x y / 128))) (twice-xor x y)
    ∙ ap (bit_xor (bit_xor (2 * x) (2 * y))) halves
    ∙ xor_swap (2 * x) (2 * y) (reduction (x / 128)) (reduction (y / 128))
    ∙ ap (λ k. bit_xor k (bit_xor (2 * y) (reduction (y / 128)))) (sym (double_is x lx))
    ∙ ap (bit_xor (double x)) (sym (double_is y ly))

pub double_lt : (x : ℕ) → x < 256 → double x < 256
double_lt = bounded_below 256 256 double refl

-- ---- if_odd adds in each place

-- a where the digit is 1, else 0
kept : ℕ → ℕ → ℕ
kept digit a = if digit == 1 then a else 0

kept-xor_digit : (d e a : ℕ) → d < 2 → e < 2 → kept (bit_xor d e) a ≡ bit_xor (kept d a) (kept e a)
unfolding kept
kept-xor_digit zero e a ld le = refl
kept-xor_digit (suc zero) zero a ld le = sym (xor_zero_r a)
kept-xor_digit (suc zero) (suc zero) a ld le = sym (xor_self a)
kept-xor_digit (suc zero) (suc (suc e)) a ld le = absurd (omega arith)
kept-xor_digit (suc (suc d)) e a ld le = absurd (omega arith)

kept-xor : (d a c : ℕ) → kept d (bit_xor a c) ≡ bit_xor (kept d a) (kept d c)
unfolding kept
kept-xor d a c = elim (d == 1) as (λ t. cond t (bit_xor a c) 0 ≡ bit_xor (cond t a 0) (cond t c 0)) [ true ↦ refl | false ↦ refl ]

kept_lt : (d a : ℕ) → a < 256 → kept d a < 256
unfolding kept
kept_lt d a h = elim (d == 1) as (λ t. cond t a 0 < 256) [ true ↦ h | false ↦ omega arith ]

kept_zero : (d : ℕ) → kept d 0 ≡ 0
kept_zero d = kept-xor d 0 0 ∙ xor_self (kept d 0)

mul_bits_more : (n a b : ℕ) → mul_bits (suc n) a b ≡ bit_xor (mul_bits n (double a) (b / 2)) (kept (b % 2) a)
unfolding kept
mul_bits_more n a b = refl

-- ---- the product by its bits

mul_bits_lt : (n a b : ℕ) → a < 256 → mul_bits n a b < 256
mul_bits_lt zero a b h = omega arith
mul_bits_lt (suc n) a b h =
    rw (mul_bits_more n a b) (xor_lt 8 (mul_bits n (double a) (b / 2)) (kept (b % 2) a) (mul_bits_lt n (double a) (b / 2) (double_lt a h)) (kept_lt (b % 2) a h))

mul_bits-xor_right : (n a b c : ℕ) → mul_bits n a (bit_xor b c) ≡ bit_xor (mul_bits n a b) (mul_bits n a c)
mul_bits-xor_right zero a b c = refl
mul_bits-xor_right (suc n) a b c =
    let high : mul_bits n (double a) (bit_xor b c / 2) ≡ bit_xor (mul_bits n (double a) (b / 2)) (mul_bits n (double a) (c / 2)) =
    ap (mul_bits n (double a)) (xor_shr b c 1) ∙ mul_bits-xor_right n (double a) (b / 2) (c / 2) in
    let low : kept (bit_xor b c % 2) a ≡ bit_xor (kept (b % 2) a) (kept (c % 2) a) =
    ap (λ d. kept d a) (xor_mod b c 1) ∙ kept-xor_digit (b % 2) (c % 2) a (omega arith) (omega arith) in
    mul_bits_more n a (bit_xor b c)
    ∙ ap (λ k. bit_xor k (kept (bit_xor b c % 2) a)) high
    ∙ ap (bit_xor (bit_xor (mul_bits n (double a) (b / 2)) (mul_bits n (double a) (c / 2)))) low
    ∙ xor_swap (mul_bits n (double a) (b / 2)) (mul_bits n (double a) (c / 2)) (kept (b % 2) a) (kept (c % 2) a)
    ∙ ap (λ k. bit_xor k (bit_xor (mul_bits n (double a) (c / 2)) (kept (c % 2) a))) (sym (mul_bits_more n a b))
    ∙ ap (bit_xor (mul_bits (suc n) a b)) (sym (mul_bits_more n a c))

mul_bits-xor_left : (n a c b : ℕ) → a < 256 → c < 256 → mul_bits n (bit_xor a c) b ≡ bit_xor (mul_bits n a b) (mul_bits n c b)
mul_bits-xor_left zero a c b la lc = refl
mul_bits-xor_left (suc n) a c b la lc =
    let high : mul_bits n (double (bit_xor a c)) (b / 2) ≡ bit_xor (mul_bits n (double a) (b / 2)) (mul_bits n (double c) (b / 2)) =
    ap (λ k. mul_bits n k (b / 2)) (double-xor a c la lc) ∙ mul_bits-xor_left n (double a) (double c) (b / 2) (double_lt a la) (double_lt c lc) in
    mul_bits_more n (bit_xor a c) b
    ∙ ap (λ k. bit_xor k (kept (b % 2) (bit_xor a c))) high
    ∙ ap (bit_xor (bit_xor (mul_bits n (double a) (b / 2)) (mul_bits n (double c) (b / 2)))) (kept-xor (b % 2) a c)
    ∙ xor_swap (mul_bits n (double a) (b / 2)) (mul_bits n (double c) (b / 2)) (kept (b % 2) a) (kept (b % 2) c)
    ∙ ap (λ k. bit_xor k (bit_xor (mul_bits n (double c) (b / 2)) (kept (b % 2) c))) (sym (mul_bits_more n a b))
    ∙ ap (bit_xor (mul_bits (suc n) a b)) (sym (mul_bits_more n c b))

mul_bits_zero : (n b : ℕ) → mul_bits n 0 b ≡ 0
mul_bits_zero zero b = refl
mul_bits_zero (suc n) b =
    mul_bits_more n 0 b
    ∙ ap (λ k. bit_xor k (kept (b % 2) 0)) (mul_bits_zero n (b / 2))
    ∙ kept_zero (b % 2)

-- ---- the laws of the product

-- a product is a byte where its first factor is one
pub mul_lt : (a b : ℕ) → a < 256 → mul a b < 256
unfolding mul
mul_lt a b h = mul_bits_lt 8 a b h

-- it distributes over a sum on the right, of any numbers
pub mul-xor_right : (a b c : ℕ) → mul a (bit_xor b c) ≡ bit_xor (mul a b) (mul a c)
unfolding mul
mul-xor_right a b c = mul_bits-xor_right 8 a b c

-- and over a sum of bytes on the left
pub mul-xor_left : (a c b : ℕ) → a < 256 → c < 256 → mul (bit_xor a c) b ≡ bit_xor (mul a b) (mul c b)
unfolding mul
mul-xor_left a c b la lc = mul_bits-xor_left 8 a c b la lc

-- 0 times any number is 0
pub zero_mul_any : (b : ℕ) → mul 0 b ≡ 0
unfolding mul
zero_mul_any b = mul_bits_zero 8 b

adds_right : (a : ℕ) → Adds (λ b. mul a b)
adds_right a = record { at_sum = λ x y _ _. mul-xor_right a x y }

adds_left : (b : ℕ) → Adds (λ a. mul a b)
adds_left b = record { at_sum = λ x y lx ly. mul-xor_left x y b lx ly }

powers_commute : all_below 8 (λ i. all_below 8 (λ j. mul (2 ^ i) (2 ^ j) == mul (2 ^ j) (2 ^ i))) ≡ true
unfolding mul
powers_commute = refl

power_commutes : (i j : ℕ) → i < 8 → j < 8 → mul (2 ^ i) (2 ^ j) ≡ mul (2 ^ j) (2 ^ i)
power_commutes i j li lj =
    let row : all_below 8 (λ j. mul (2 ^ i) (2 ^ j) == mul (2 ^ j) (2 ^ i)) ≡ true =
    all_below_at 8 (λ i. all_below 8 (λ j. mul (2 ^ i) (2 ^ j) == mul (2 ^ j) (2 ^ i))) powers_commute i li in
    same_below 8 (λ j. mul (2 ^ i) (2 ^ j)) (λ j. mul (2 ^ j) (2 ^ i)) row j lj

pub mul_comm : (a b : ℕ) → a < 256 → b < 256 → mul a b ≡ mul b a
mul_comm a b la lb =
    same_of_powers (λ x. mul x b) (λ x. mul b x) (adds_left b) (adds_right b)
    (λ i li. same_of_powers (λ y. mul (2 ^ i) y) (λ y. mul y (2 ^ i)) (adds_right (2 ^ i)) (adds_left (2 ^ i))
    (λ j lj. power_commutes i j li lj) b lb)
    a la

-- any number times 0 is 0
pub mul_zero : (a : ℕ) → mul a 0 ≡ 0
mul_zero a = mul-xor_right a 0 0 ∙ xor_self (mul a 0)

pub one_mul : (a : ℕ) → a < 256 → mul 1 a ≡ a
unfolding mul
one_mul = same_below 256 (λ a. mul 1 a) (λ a. a) refl

pub mul_one : (a : ℕ) → a < 256 → mul a 1 ≡ a
mul_one a h = mul_comm a 1 h (omega arith) ∙ one_mul a h

powers_associate : all_below 8 (λ i. all_below 8 (λ j. all_below 8 (λ k. mul (mul (2 ^ i) (2 ^ j)) (2 ^ k) == mul (2 ^ i) (mul (2 ^ j) (2 ^ k))))) ≡ true
unfolding mul
powers_associate = refl

power_associates : (i j k : ℕ) → i < 8 → j < 8 → k < 8 → mul (mul (2 ^ i) (2 ^ j)) (2 ^ k) ≡ mul (2 ^ i) (mul (2 ^ j) (2 ^ k))
power_associates i j k li lj lk =
    let plane : all_below 8 (λ j. all_below 8 (λ k. mul (mul (2 ^ i) (2 ^ j)) (2 ^ k) == mul (2 ^ i) (mul (2 ^ j) (2 ^ k)))) ≡ true =
    all_below_at 8 (λ i. all_below 8 (λ j. all_below 8 (λ k. mul (mul (2 ^ i) (2 ^ j)) (2 ^ k) == mul (2 ^ i) (mul (2 ^ j) (2 ^ k))))) powers_associate i li in
    let row : all_below 8 (λ k. mul (mul (2 ^ i) (2 ^ j)) (2 ^ k) == mul (2 ^ i) (mul (2 ^ j) (2 ^ k))) ≡ true =
    all_below_at 8 (λ j. all_below 8 (λ k. mul (mul (2 ^ i) (2 ^ j)) (2 ^ k) == mul (2 ^ i) (mul (2 ^ j) (2 ^ k)))) plane j lj in
    same_below 8 (λ k. mul (mul (2 ^ i) (2 ^ j)) (2 ^ k)) (λ k. mul (2 ^ i) (mul (2 ^ j) (2 ^ k))) row k lk

adds_first_left : (b c : ℕ) → Adds (λ a. mul (mul a b) c)
adds_first_left b c = record { at_sum = λ x y lx ly. ap (λ k. mul k c) (mul-xor_left x y b lx ly) ∙ mul-xor_left (mul x b) (mul y b) c (mul_lt x b lx) (mul_lt y b ly) }

adds_second_left : (a c : ℕ) → a < 256 → Adds (λ b. mul (mul a b) c)
adds_second_left a c la = record { at_sum = λ x y lx ly. ap (λ k. mul k c) (mul-xor_right a x y) ∙ mul-xor_left (mul a x) (mul a y) c (mul_lt a x la) (mul_lt a y la) }

adds_second_right : (a c : ℕ) → Adds (λ b. mul a (mul b c))
adds_second_right a c = record { at_sum = λ x y lx ly. ap (mul a) (mul-xor_left x y c lx ly) ∙ mul-xor_right a (mul x c) (mul y c) }

adds_third_right : (a b : ℕ) → Adds (λ c. mul a (mul b c))
adds_third_right a b = record { at_sum = λ x y _ _. ap (mul a) (mul-xor_right b x y) ∙ mul-xor_right a (mul b x) (mul b y) }

pub mul_assoc : (a b c : ℕ) → a < 256 → b < 256 → c < 256 → mul (mul a b) c ≡ mul a (mul b c)
mul_assoc a b c la lb lc =
    same_of_powers (λ x. mul (mul x b) c) (λ x. mul x (mul b c)) (adds_first_left b c) (adds_left (mul b c))
    (λ i li. let pi : 2 ^ i < 256 = pow_below i 8 li in
    same_of_powers (λ y. mul (mul (2 ^ i) y) c) (λ y. mul (2 ^ i) (mul y c)) (adds_second_left (2 ^ i) c pi) (adds_second_right (2 ^ i) c)
    (λ j lj. same_of_powers (λ z. mul (mul (2 ^ i) (2 ^ j)) z) (λ z. mul (2 ^ i) (mul (2 ^ j) z)) (adds_right (mul (2 ^ i) (2 ^ j))) (adds_third_right (2 ^ i) (2 ^ j))
    (λ k lk. power_associates i j k li lj lk) c lc)
    b lb)
    a la
