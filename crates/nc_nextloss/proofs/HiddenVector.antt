-- For three clouds of the striped code, a vector in one stripe that the rows of all other clouds send to 0.
use Rattle.std.proofs.Common.{◌≡◌, ◌≢◌, ℕ, ◌+◌, ◌-◌, ◌*◌, ◌/◌, ◌%◌, ◌^◌, ◌<◌, ◌≤◌, ◌==◌, bit_xor, refl, sym, ap, ◌∙◌, subst, arith, inl, inr, if◌then◌else◌}
use Rattle.std.specs.Int.Bits.{xor_self, xor_zero_l, xor_comm, xor_assoc}
use Rattle.std.proofs.lemmas.Bool.{cases_lt, cases_eq}
use Rattle.std.proofs.lemmas.Bool.Decides.{nat_tests}
use Rattle.nc_gf256.specs.Field.{mul}
use Rattle.nc_gf256.proofs.FieldLaws.{mul_comm, mul-xor_right, one_mul}
use Rattle.nc_gf256.proofs.Sums.{xor_byte}
use Rattle.nc_code.specs.Striped.{stripe}
use Rattle.nc_mds.proofs.StripedRows.{along, stripe_on, two_left, three_left}
use Rattle.nc_mds.proofs.StripedMds.{power_byte, power_some, powers_differ}

-- u gives the entries, by cloud, of a vector in stripe q that all clouds other than a, b and c send to 0
pub record IsHidden (n q a b c : ℕ) (u : ℕ → ℕ) : Type 0 where
  pub place : ℕ
  pub low : place < n - 2
  pub not_zero : u place ≢ 0
  pub bytes : (k : ℕ) → u k < 256
  pub only : (k : ℕ) → k < n - 2 → k ≢ a → k ≢ b → k ≢ c → u k ≡ 0
  pub sums : n - 2 ≢ a → n - 2 ≢ b → n - 2 ≢ c → along n q (λ d. 1) (stripe q u) ≡ 0
  pub powers : n - 1 ≢ a → n - 1 ≢ b → n - 1 ≢ c → along n q (λ d. 2 ^ d) (stripe q u) ≡ 0

-- the order of the three clouds does not matter
reordered : (n q a b c x y z : ℕ) (u : ℕ → ℕ) → ((k : ℕ) → k ≢ x → k ≢ y → k ≢ z → (k ≢ a) × (k ≢ b) × (k ≢ c))
    → IsHidden n q a b c u → IsHidden n q x y z u
reordered n q a b c x y z u same h = record {
  place = h.place;
  low = h.low;
  not_zero = h.not_zero;
  bytes = h.bytes;
  only = λ k low nx ny nz. let ne = same k nx ny nz in h.only k low ne.0 ne.1 ne.2;
  sums = λ nx ny nz. let ne = same (n - 2) nx ny nz in h.sums ne.0 ne.1 ne.2;
  powers = λ nx ny nz. let ne = same (n - 1) nx ny nz in h.powers ne.0 ne.1 ne.2;
}

-- ---- the entries

-- values at three clouds, else 0
abbrev pub of_three : ℕ → ℕ → ℕ → ℕ → ℕ → ℕ → ℕ → ℕ
of_three x y z f g h k = if k == x then f else if k == y then g else if k == z then h else 0

three_first : (x y z f g h : ℕ) → of_three x y z f g h x ≡ f
three_first x y z f g h = grind (arith, nat_tests)

three_second : (x y z f g h : ℕ) → y ≢ x → of_three x y z f g h y ≡ g
three_second x y z f g h ne = grind (arith, nat_tests)

three_third : (x y z f g h : ℕ) → z ≢ x → z ≢ y → of_three x y z f g h z ≡ h
three_third x y z f g h ne ne2 = grind (arith, nat_tests)

three_else : (x y z f g h k : ℕ) → k ≢ x → k ≢ y → k ≢ z → of_three x y z f g h k ≡ 0
three_else x y z f g h k a b c = grind (arith, nat_tests)

three_byte : (x y z f g h k : ℕ) → f < 256 → g < 256 → h < 256 → of_three x y z f g h k < 256
three_byte x y z f g h k a b c = grind (arith, nat_tests)

two_else : (x y z f g k : ℕ) → k ≢ x → k ≢ y → of_three x y z f g 0 k ≡ 0
two_else x y z f g k a b = grind (arith, nat_tests)

stripe_at : (q c : ℕ) (u : ℕ → ℕ) → q < 2 → stripe q u (2 * c + q) ≡ u c
stripe_at q c u pair =
    let place : (2 * c + q) % 2 ≡ q = omega arith in
    let cloud : (2 * c + q) / 2 ≡ c = omega arith in
    stripe_on q (2 * c + q) u place ∙ ap u cloud

-- ---- the sums

-- (b + c) + (a + c) + (a + b) = 0
three_zero : (a b c : ℕ) → bit_xor (bit_xor (bit_xor b c) (bit_xor a c)) (bit_xor a b) ≡ 0
three_zero a b c =
    let ac = xor_comm a c in
    let first : bit_xor (bit_xor b c) (bit_xor a c) ≡ bit_xor a b =
    ap (bit_xor (bit_xor b c)) ac ∙ xor_assoc b c (bit_xor c a)
    ∙ ap (bit_xor b) (sym (xor_assoc c c a) ∙ ap (λ x. bit_xor x a) (xor_self c) ∙ xor_zero_l a)
    ∙ xor_comm b a in
    ap (λ x. bit_xor x (bit_xor a b)) first ∙ xor_self (bit_xor a b)

-- (a + b) + (a + c) + (b + c) = 0
three_turned : (a b c : ℕ) → bit_xor (bit_xor (bit_xor a b) (bit_xor a c)) (bit_xor b c) ≡ 0
three_turned a b c =
    ap (λ e. bit_xor (bit_xor e (bit_xor a c)) (bit_xor b c)) (xor_comm a b)
    ∙ ap (λ e. bit_xor (bit_xor (bit_xor b a) e) (bit_xor b c)) (xor_comm a c)
    ∙ ap (bit_xor (bit_xor (bit_xor b a) (bit_xor c a))) (xor_comm b c)
    ∙ three_zero c b a

sum_of_three : (n q x y z : ℕ) (w : ℕ → ℕ) (f g h : ℕ) → q < 2 → x < y → y < z → z < n - 2
    → along n q w (stripe q (of_three x y z f g h)) ≡ bit_xor (bit_xor (mul (w x) f) (mul (w y) g)) (mul (w z) h)
sum_of_three n q x y z w f g h pair xy yz low =
    let u = of_three x y z f g h in
    three_left n q x y z w (stripe q u) pair (omega arith) (omega arith) low (omega arith) (omega arith) (omega arith)
    (λ c below nx ny nz. stripe_at q c u pair ∙ three_else x y z f g h c nx ny nz)
    ∙ ap (λ e. bit_xor (bit_xor (mul (w x) e) (mul (w y) (stripe q u (2 * y + q)))) (mul (w z) (stripe q u (2 * z + q)))) (stripe_at q x u pair ∙ three_first x y z f g h)
    ∙ ap (λ e. bit_xor (bit_xor (mul (w x) f) (mul (w y) e)) (mul (w z) (stripe q u (2 * z + q)))) (stripe_at q y u pair ∙ three_second x y z f g h (omega arith))
    ∙ ap (λ e. bit_xor (bit_xor (mul (w x) f) (mul (w y) g)) (mul (w z) e)) (stripe_at q z u pair ∙ three_third x y z f g h (omega arith) (omega arith))

sum_of_two : (n q x y z : ℕ) (w : ℕ → ℕ) (f g : ℕ) → q < 2 → x < y → y < z → y < n - 2
    → along n q w (stripe q (of_three x y z f g 0)) ≡ bit_xor (mul (w x) f) (mul (w y) g)
sum_of_two n q x y z w f g pair xy yz low =
    let u = of_three x y z f g 0 in
    two_left n q x y w (stripe q u) pair (omega arith) low (omega arith)
    (λ c below nx ny. stripe_at q c u pair ∙ two_else x y z f g c nx ny)
    ∙ ap (λ e. bit_xor (mul (w x) e) (mul (w y) (stripe q u (2 * y + q)))) (stripe_at q x u pair ∙ three_first x y z f g 0)
    ∙ ap (λ e. bit_xor (mul (w x) f) (mul (w y) e)) (stripe_at q y u pair ∙ three_second x y z f g 0 (omega arith))

-- 1 f + 1 g + 1 h = f + g + h
ones_gone : (f g h : ℕ) → f < 256 → g < 256 → h < 256 → bit_xor (bit_xor (mul 1 f) (mul 1 g)) (mul 1 h) ≡ bit_xor (bit_xor f g) h
ones_gone f g h bf bg bh = rw (one_mul f bf, one_mul g bg, one_mul h bh)

-- a (b + c) + b (a + c) + c (a + b) = 0
products_gone : (a b c : ℕ) → a < 256 → b < 256 → c < 256
    → bit_xor (bit_xor (mul a (bit_xor b c)) (mul b (bit_xor a c))) (mul c (bit_xor a b)) ≡ 0
products_gone a b c ba bb bc =
    rw (mul-xor_right a b c, mul-xor_right b a c, mul-xor_right c a b, mul_comm b a bb ba, mul_comm c a bc ba, mul_comm c b bc bb)
    (three_turned (mul a b) (mul a c) (mul b c))

-- ---- the vector, for clouds in ascending order

-- three clouds of natives
natives_hidden : (n q x y z : ℕ) → n ≤ 10 → q < 2 → x < y → y < z → z < n - 2
    → IsHidden n q x y z (of_three x y z (bit_xor (2 ^ y) (2 ^ z)) (bit_xor (2 ^ x) (2 ^ z)) (bit_xor (2 ^ x) (2 ^ y)))
natives_hidden n q x y z narrow pair xy yz low =
    let a = 2 ^ x in
    let b = 2 ^ y in
    let c = 2 ^ z in
    let byte_a : 2 ^ x < 256 = power_byte x (omega arith) in
    let byte_b : 2 ^ y < 256 = power_byte y (omega arith) in
    let byte_c : 2 ^ z < 256 = power_byte z (omega arith) in
    let f = bit_xor (2 ^ y) (2 ^ z) in
    let g = bit_xor (2 ^ x) (2 ^ z) in
    let h = bit_xor (2 ^ x) (2 ^ y) in
    let byte_f : bit_xor (2 ^ y) (2 ^ z) < 256 = xor_byte b c byte_b byte_c in
    let byte_g : bit_xor (2 ^ x) (2 ^ z) < 256 = xor_byte a c byte_a byte_c in
    let byte_h : bit_xor (2 ^ x) (2 ^ y) < 256 = xor_byte a b byte_a byte_b in
    record {
      place = x;
      low = omega arith;
      not_zero = λ e. powers_differ y z yz (sym (three_first x y z f g h) ∙ e);
      bytes = λ k. three_byte x y z f g h k byte_f byte_g byte_h;
      only = λ k below nx ny nz. three_else x y z f g h k nx ny nz;
      sums = λ _ _ _.
          sum_of_three n q x y z (λ d. 1) f g h pair xy yz low
          ∙ ones_gone f g h byte_f byte_g byte_h
          ∙ three_zero a b c;
      powers = λ _ _ _.
          sum_of_three n q x y z (λ d. 2 ^ d) f g h pair xy yz low
          ∙ products_gone a b c byte_a byte_b byte_c;
    }

-- two clouds of natives, and the sums
sums_hidden : (n q x y : ℕ) → 4 ≤ n → n ≤ 10 → q < 2 → x < y → y < n - 2 → IsHidden n q x y (n - 2) (of_three x y (n - 2) (2 ^ y) (2 ^ x) 0)
sums_hidden n q x y wide narrow pair xy low =
    let byte_x : 2 ^ x < 256 = power_byte x (omega arith) in
    let byte_y : 2 ^ y < 256 = power_byte y (omega arith) in
    record {
      place = x;
      low = omega arith;
      not_zero = λ e. power_some y (sym (three_first x y (n - 2) (2 ^ y) (2 ^ x) 0) ∙ e);
      bytes = λ k. three_byte x y (n - 2) (2 ^ y) (2 ^ x) 0 k byte_y byte_x (omega arith);
      only = λ k below nx ny nz. three_else x y (n - 2) (2 ^ y) (2 ^ x) 0 k nx ny nz;
      sums = λ _ _ ne. absurd (ne refl);
      powers = λ _ _ _.
          sum_of_two n q x y (n - 2) (λ d. 2 ^ d) (2 ^ y) (2 ^ x) pair xy low low
          ∙ ap (bit_xor (mul (2 ^ x) (2 ^ y))) (mul_comm (2 ^ y) (2 ^ x) byte_y byte_x)
          ∙ xor_self (mul (2 ^ x) (2 ^ y));
    }

one_some : (x : ℕ) → x ≡ 1 → x ≢ 0
one_some x one e = absurd (omega (arith, one, e))

-- two clouds of natives, and the weighted sums
powers_hidden : (n q x y : ℕ) → 4 ≤ n → n ≤ 10 → q < 2 → x < y → y < n - 2 → IsHidden n q x y (n - 1) (of_three x y (n - 1) 1 1 0)
powers_hidden n q x y wide narrow pair xy low = record {
  place = x;
  low = omega arith;
  not_zero = λ e. one_some _ (three_first x y (n - 1) 1 1 0) e;
  bytes = λ k. three_byte x y (n - 1) 1 1 0 k (omega arith) (omega arith) (omega arith);
  only = λ k below nx ny nz. three_else x y (n - 1) 1 1 0 k nx ny nz;
  sums = λ _ _ _.
      sum_of_two n q x y (n - 1) (λ d. 1) 1 1 pair xy (omega arith) low
      ∙ xor_self (mul 1 1);
  powers = λ _ _ ne. absurd (ne refl);
}

-- one cloud of natives, and both sums
both_hidden : (n q x : ℕ) → 4 ≤ n → n ≤ 10 → q < 2 → x < n - 2 → IsHidden n q x (n - 2) (n - 1) (of_three x (n - 2) (n - 1) 1 0 0)
both_hidden n q x wide narrow pair low = record {
  place = x;
  low = low;
  not_zero = λ e. one_some _ (three_first x (n - 2) (n - 1) 1 0 0) e;
  bytes = λ k. three_byte x (n - 2) (n - 1) 1 0 0 k (omega arith) (omega arith) (omega arith);
  only = λ k below nx ny nz. three_else x (n - 2) (n - 1) 1 0 0 k nx ny nz;
  sums = λ _ ne _. absurd (ne refl);
  powers = λ _ _ ne. absurd (ne refl);
}

-- such entries
abbrev pub Hidden : ℕ → ℕ → ℕ → ℕ → ℕ → Type 0
Hidden n q a b c = (u : ℕ → ℕ) × IsHidden n q a b c u

weighted : (n q x y : ℕ) → 4 ≤ n → n ≤ 10 → q < 2 → x < y → y < n - 1 → Hidden n q x y (n - 1)
weighted n q x y wide narrow pair xy low = elim (cases_lt y (n - 2)) [
  | inl natives ↦ (of_three x y (n - 1) 1 1 0, powers_hidden n q x y wide narrow pair xy natives)
  | inr sums ↦
      let middle : n - 2 ≡ y = omega arith in
      subst (λ (b : ℕ). Hidden n q x b (n - 1)) middle (of_three x (n - 2) (n - 1) 1 0 0, both_hidden n q x wide narrow pair (omega arith))
]

sorted : (n q x y z : ℕ) → 4 ≤ n → n ≤ 10 → q < 2 → x < y → y < z → z < n → Hidden n q x y z
sorted n q x y z wide narrow pair xy yz within = elim (cases_lt z (n - 2)) [
  | inl low ↦ (of_three x y z (bit_xor (2 ^ y) (2 ^ z)) (bit_xor (2 ^ x) (2 ^ z)) (bit_xor (2 ^ x) (2 ^ y)), natives_hidden n q x y z narrow pair xy yz low)
  | inr high ↦ elim (cases_eq z (n - 2)) [
    | inl is ↦ subst (λ (c : ℕ). Hidden n q x y c) (sym is) (of_three x y (n - 2) (2 ^ y) (2 ^ x) 0, sums_hidden n q x y wide narrow pair xy (omega arith))
    | inr ne ↦
        let last : n - 1 ≡ z = omega arith in
        subst (λ (c : ℕ). Hidden n q x y c) last (weighted n q x y wide narrow pair xy (omega arith))
  ]
]

swap : (n q a b c : ℕ) → Hidden n q a b c → Hidden n q b a c
swap n q a b c h = (h.0, reordered n q a b c b a c h.0 (λ k nb na nc. (na, nb, nc)) h.1)

turn : (n q a b c : ℕ) → Hidden n q a b c → Hidden n q b c a
turn n q a b c h = (h.0, reordered n q a b c b c a h.0 (λ k nb nc na. (na, nb, nc)) h.1)

-- for any three clouds, where the first two are in order
pub hidden : (n q a b c : ℕ) → 4 ≤ n → n ≤ 10 → q < 2 → a < b → b < n → c < n → c ≢ a → c ≢ b → Hidden n q a b c
hidden n q a b c wide narrow pair less within third na nb = elim (cases_lt b c) [
  | inl after ↦ sorted n q a b c wide narrow pair less after third
  | inr before ↦ elim (cases_lt a c) [
    | inl middle ↦ swap n q b a c (turn n q c b a (turn n q a c b (sorted n q a c b wide narrow pair middle (omega arith) within)))
    | inr first ↦ turn n q c a b (sorted n q c a b wide narrow pair (omega arith) less within)
  ]
]
