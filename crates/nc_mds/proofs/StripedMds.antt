-- The striped code is MDS.
use Rattle.std.proofs.Common.{◌≡◌, ◌≢◌, ℕ, ◌+◌, ◌-◌, ◌*◌, ◌/◌, ◌%◌, ◌^◌, ◌<◌, ◌≤◌, List, bit_xor, slice_index, refl, sym, ap, ◌∙◌, subst, arith, ◌⊎◌, inl, inr}
use Rattle.std.proofs.lemmas.Bool.{cases_lt, cases_eq}
use Rattle.std.proofs.lemmas.Nat.{pow_below, pow_pos}
use Rattle.nc_bytes.specs.Bytes.{AreBytes}
use Rattle.nc_gf256.specs.Field.{mul}
use Rattle.nc_gf256.specs.Rows.{dot}
use Rattle.nc_gf256.specs.Width.{native_count}
use Rattle.nc_gf256.proofs.FieldLaws.{one_mul, mul-xor_left}
use Rattle.nc_gf256.proofs.Sums.{same_of_xor, no_divisors, xor_byte}
use Rattle.nc_code.specs.Codes.{code_row, IsPairMds}
use Rattle.nc_code.specs.Striped.{striped_code}
use Rattle.nc_mds.specs.Laws.{StripedIsMds}
use Rattle.nc_mds.proofs.StripedRows.{along, one_left, two_left, dot_native, dot_sums, dot_powers}

-- a vector of bytes that all rows of the clouds other than a and b send to 0
record IsSent (n a b : ℕ) (v : List ℕ) : Type 0 where
  bytes : AreBytes v
  sent : (c s : ℕ) → c < n → s < 2 → c ≢ a → c ≢ b → dot (native_count n) (code_row (striped_code n) c s) v ≡ 0

pub striped_width : (n : ℕ) → (striped_code n).width ≡ n
unfolding striped_code
striped_width n = refl

pub power_byte : (c : ℕ) → c < 8 → 2 ^ c < 256
power_byte c low = pow_below c 8 low

pub power_some : (c : ℕ) → 2 ^ c ≢ 0
power_some c e = absurd (omega (arith, pow_pos c, e))

-- the natives of the clouds that are left
native_zero : (n a b c s : ℕ) (v : List ℕ) → n ≤ 10 → IsSent n a b v → c < n - 2 → s < 2 → c ≢ a → c ≢ b → slice_index v (2 * c + s) ≡ 0
native_zero n a b c s v narrow is low pair na nb =
    sym (dot_native n c s v narrow low pair (is.bytes (2 * c + s))) ∙ is.sent c s (omega arith) pair na nb

-- a and a cloud of sums are gone: the other sum has one term
alone : (n a b s : ℕ) (v : List ℕ) → 4 ≤ n → n ≤ 10 → IsSent n a b v → s < 2 → a < n - 2 → (b ≡ n - 2) ⊎ (b ≡ n - 1) → slice_index v (2 * a + s) ≡ 0
alone n a b s v wide narrow is pair low which = elim which [
  | inl e ↦
      let gone : along n s (λ d. 2 ^ d) (slice_index v) ≡ 0 = sym (dot_powers n s v wide narrow pair) ∙ is.sent (n - 1) s (omega arith) pair (omega arith) (omega arith) in
      let term = one_left n s a (λ d. 2 ^ d) (slice_index v) pair low (λ c below ne. native_zero n a b c s v narrow is below pair ne (omega arith)) in
      no_divisors (2 ^ a) (slice_index v (2 * a + s)) (power_byte a (omega arith)) (is.bytes (2 * a + s)) (power_some a) (sym term ∙ gone)
  | inr e ↦
      let gone : along n s (λ d. 1) (slice_index v) ≡ 0 = sym (dot_sums n s v wide narrow pair) ∙ is.sent (n - 2) s (omega arith) pair (omega arith) (omega arith) in
      let term = one_left n s a (λ d. 1) (slice_index v) pair low (λ c below ne. native_zero n a b c s v narrow is below pair ne (omega arith)) in
      sym (one_mul (slice_index v (2 * a + s)) (is.bytes (2 * a + s))) ∙ sym term ∙ gone
]

-- two clouds of natives are gone: by the sum their entries are equal, and by the weighted sum the entries are 0
pub powers_differ : (a b : ℕ) → a < b → bit_xor (2 ^ a) (2 ^ b) ≢ 0
powers_differ a b less e =
    let same : 2 ^ a ≡ 2 ^ b = same_of_xor (2 ^ a) (2 ^ b) e in
    absurd (omega (arith, pow_below a b less, same))

both : (n a b s : ℕ) (v : List ℕ) → 4 ≤ n → n ≤ 10 → IsSent n a b v → s < 2 → a < b → b < n - 2 → (slice_index v (2 * a + s) ≡ 0) × (slice_index v (2 * b + s) ≡ 0)
both n a b s v wide narrow is pair less low =
    let x = slice_index v (2 * a + s) in
    let y = slice_index v (2 * b + s) in
    let others = λ (c : ℕ) (below : c < n - 2) (na : c ≢ a) (nb : c ≢ b). native_zero n a b c s v narrow is below pair na nb in
    let sums : along n s (λ d. 1) (slice_index v) ≡ 0 = sym (dot_sums n s v wide narrow pair) ∙ is.sent (n - 2) s (omega arith) pair (omega arith) (omega arith) in
    let powers : along n s (λ d. 2 ^ d) (slice_index v) ≡ 0 = sym (dot_powers n s v wide narrow pair) ∙ is.sent (n - 1) s (omega arith) pair (omega arith) (omega arith) in
    let two = two_left n s a b (λ d. 1) (slice_index v) pair (omega arith) low (omega arith) others in
    let same : x ≡ y = sym (one_mul x (is.bytes (2 * a + s))) ∙ same_of_xor (mul 1 x) (mul 1 y) (sym two ∙ sums) ∙ one_mul y (is.bytes (2 * b + s)) in
    let weighted = two_left n s a b (λ d. 2 ^ d) (slice_index v) pair (omega arith) low (omega arith) others in
    let product : mul (bit_xor (2 ^ a) (2 ^ b)) x ≡ 0 =
    mul-xor_left (2 ^ a) (2 ^ b) x (power_byte a (omega arith)) (power_byte b (omega arith))
    ∙ ap (λ z. bit_xor (mul (2 ^ a) x) (mul (2 ^ b) z)) same
    ∙ sym weighted ∙ powers in
    let none : x ≡ 0 = no_divisors (bit_xor (2 ^ a) (2 ^ b)) x (xor_byte (2 ^ a) (2 ^ b) (power_byte a (omega arith)) (power_byte b (omega arith))) (is.bytes (2 * a + s)) (powers_differ a b less) product in
    (none, sym same ∙ none)

which_sums : (n b : ℕ) → 4 ≤ n → n - 2 ≤ b → b < n → (b ≡ n - 2) ⊎ (b ≡ n - 1)
which_sums n b wide low high = elim (cases_eq b (n - 2)) [ inl e ↦ inl e | inr ne ↦ inr (omega arith) ]

-- each entry of the vector is 0
entry_zero : (n a b c s : ℕ) (v : List ℕ) → 4 ≤ n → n ≤ 10 → IsSent n a b v → a < b → b < n → c < n - 2 → s < 2 → slice_index v (2 * c + s) ≡ 0
entry_zero n a b c s v wide narrow is less within low pair = elim (cases_eq c a) [
  | inl first ↦ elim (cases_lt b (n - 2)) [
    | inl natives ↦ subst (λ (d : ℕ). slice_index v (2 * d + s) ≡ 0) (sym first) (both n a b s v wide narrow is pair less natives).0
    | inr sums ↦ subst (λ (d : ℕ). slice_index v (2 * d + s) ≡ 0) (sym first) (alone n a b s v wide narrow is pair (omega arith) (which_sums n b wide sums within))
  ]
  | inr not_first ↦ elim (cases_eq c b) [
    | inl second ↦ subst (λ (d : ℕ). slice_index v (2 * d + s) ≡ 0) (sym second) (both n a b s v wide narrow is pair less (omega arith)).1
    | inr not_second ↦ native_zero n a b c s v narrow is low pair not_first not_second
  ]
]

pair_mds : (n a b : ℕ) → 4 ≤ n → n ≤ 10 → a < b → b < n → IsPairMds (striped_code n) a b
pair_mds n a b wide narrow less within = record {
  free = record {
    only_zeros = λ v bytes sent i below.
        let width = striped_width n in
        let is : IsSent n a b v = record {
          bytes = bytes;
          sent = λ c s in_width pair na nb. subst (λ (w : ℕ). dot (native_count w) (code_row (striped_code n) c s) v ≡ 0) width (sent (code_row (striped_code n) c s) (record {
            cloud = c;
            place = s;
            in_width = subst (λ (w : ℕ). c < w) (sym width) in_width;
            in_pair = pair;
            not_first = na;
            not_second = nb;
            is_row = refl;
          }));
        } in
        let low : i < native_count n = subst (λ (w : ℕ). i < native_count w) width below in
        let place : 2 * (i / 2) + i % 2 ≡ i = omega arith in
        subst (λ (k : ℕ). slice_index v k ≡ 0) place (entry_zero n a b (i / 2) (i % 2) v wide narrow is less within (omega arith) (omega arith));
  };
}

pub striped_mds : StripedIsMds
striped_mds n wide narrow = λ a b less within. pair_mds n a b wide narrow less (subst (λ (w : ℕ). b < w) (striped_width n) within)
