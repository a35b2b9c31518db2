-- The product bit by bit of the second factor, in each lane.
use Rattle.std.proofs.Common.{◌≡◌, ℕ, suc, ◌+◌, ◌/◌, ◌%◌, ◌<◌, eqb, leb, List, cond, length, get_or, replicate, refl, sym, ap, subst, ◌∙◌, arith, w8, bit_and, bit_xor, Fits, map}
use Rattle.std.specs.Simd.Lanes.{zip2, sel_l, top, Each1}
use Rattle.std.proofs.lemmas.Simd.{tops_compared, get_or-replicate, Each1-get_or}
use Rattle.std.proofs.lemmas.Nat.{and_mask}
use lib.Bits.{xor_assoc, xor_comm, xor_zero_l, xor_zero_r}
use Rattle.nc_gf256.specs.Field.{double, if_odd, mul_bits, mul}
use Rattle.nc_gf256.proofs.Cases.{same_below}
use Rattle.nc_lanes.specs.Lanes.{HasLanes}
use Rattle.nc_lanes.proofs.LaneLemmas.{HasLanes-same, HasLanes-zip2, HasLanes-splat, HasLanes-chosen}

double_is : (a : ℕ) → a < 256 → bit_xor ((a + a) % 256) (cond (leb 128 a) 0x1D 0) ≡ double a
double_is = same_below 256 (λ a. bit_xor ((a + a) % 256) (cond (leb 128 a) 0x1D 0)) double refl

-- 29 where a lane's top bit is set, else 0
abbrev pub carries : List ℕ → List ℕ
carries v = sel_l (map (top 7) (zip2 (λ a b. cond (leb a b) 255 0) (replicate 32 128) v)) (replicate 32 0x1D) (replicate 32 0)

HasLanes-carries : (v : List ℕ) → length v ≡ 32 → HasLanes (carries v) (λ k. cond (leb 128 (get_or v k 0)) 0x1D 0)
HasLanes-carries v long =
    subst (λ ms. HasLanes (sel_l ms (replicate 32 0x1D) (replicate 32 0)) (λ k. cond (leb 128 (get_or v k 0)) 0x1D 0))
    (sym (tops_compared w8 leb (replicate 32 128) v))
    (HasLanes-same _ _ (HasLanes-chosen leb (replicate 32 128) v (replicate 32 0x1D) (replicate 32 0) refl long refl refl)
    (λ k lt. (λ i. cond (leb (get_or-replicate 32 k 128 0 lt i) (get_or v k 0)) (get_or-replicate 32 k 0x1D 0 lt i) (get_or-replicate 32 k 0 0 lt i))))

pub HasLanes-doubled : (v : List ℕ) → length v ≡ 32 → Each1 (Fits w8) v
    → HasLanes (zip2 bit_xor (zip2 (λ a b. (a + b) % 256) v v) (carries v)) (λ k. double (get_or v k 0))
HasLanes-doubled v long fits =
    let twice = HasLanes-zip2 (λ a b. (a + b) % 256) v v long long in
    let carry = HasLanes-carries v long in
    HasLanes-same _ _ (HasLanes-zip2 bit_xor (zip2 (λ a b. (a + b) % 256) v v) (carries v) twice.long carry.long)
    (λ k lt.
    let byte : get_or v k 0 < 256 = omega (arith, (Each1-get_or (Fits w8) v k 0 (omega arith) fits).fits) in
    ap (λ y. bit_xor y (get_or (carries v) k 0)) (twice.each k lt)
    ∙ ap (bit_xor ((get_or v k 0 + get_or v k 0) % 256)) (carry.each k lt)
    ∙ double_is (get_or v k 0) byte)

pub HasLanes-where_odd : (b v : List ℕ) → length b ≡ 32 → length v ≡ 32
    → HasLanes (sel_l (map (top 7) (zip2 (λ x y. cond (eqb x y) 255 0) (zip2 bit_and b (replicate 32 1)) (replicate 32 1))) v (replicate 32 0)) (λ k. if_odd (get_or b k 0) (get_or v k 0))
HasLanes-where_odd b v lb lv =
    let lowest = HasLanes-splat bit_and b 1 lb in
    subst (λ ms. HasLanes (sel_l ms v (replicate 32 0)) (λ k. if_odd (get_or b k 0) (get_or v k 0)))
    (sym (tops_compared w8 eqb (zip2 bit_and b (replicate 32 1)) (replicate 32 1)))
    (HasLanes-same _ _ (HasLanes-chosen eqb (zip2 bit_and b (replicate 32 1)) (replicate 32 1) v (replicate 32 0) lowest.long refl lv refl)
    (λ k lt.
    let bit : get_or (zip2 bit_and b (replicate 32 1)) k 0 ≡ get_or b k 0 % 2 = lowest.each k lt ∙ and_mask (get_or b k 0) 1 in
    (λ i. cond (eqb (bit i) (get_or-replicate 32 k 1 0 lt i)) (get_or v k 0) (get_or-replicate 32 k 0 0 lt i))))

-- after some bits of b: the sum so far, and what the bits that are left add to it, are the products
pub record IsUnderway (a b : List ℕ) (taken : ℕ) (product multiple bits : List ℕ) : Type 0 where
  pub product_long : length product ≡ 32
  pub multiple_long : length multiple ≡ 32
  pub bits_long : length bits ≡ 32
  pub each : (k : ℕ) → k < 32 → (left : ℕ) → left + taken ≡ 8
      → bit_xor (get_or product k 0) (mul_bits left (get_or multiple k 0) (get_or bits k 0)) ≡ mul (get_or a k 0) (get_or b k 0)

pub start : (a b : List ℕ) → length a ≡ 32 → length b ≡ 32 → IsUnderway a b 0 (replicate 32 0) a b
unfolding mul
start a b la lb = record {
  product_long = refl;
  multiple_long = la;
  bits_long = lb;
  each = λ k lt left e.
      let eight : left ≡ 8 = omega arith in
      ap (λ x. bit_xor x (mul_bits left (get_or a k 0) (get_or b k 0))) (get_or-replicate 32 k 0 0 lt)
      ∙ xor_zero_l (mul_bits left (get_or a k 0) (get_or b k 0))
      ∙ ap (λ n. mul_bits n (get_or a k 0) (get_or b k 0)) eight;
}

one_bit : (p m b n left : ℕ) → bit_xor p (mul_bits (suc left) m b) ≡ n → bit_xor (bit_xor p (if_odd b m)) (mul_bits left (double m) (b / 2)) ≡ n
one_bit p m b n left h =
    xor_assoc p (if_odd b m) (mul_bits left (double m) (b / 2))
    ∙ ap (bit_xor p) (xor_comm (if_odd b m) (mul_bits left (double m) (b / 2)))
    ∙ h

pub next : (a b : List ℕ) (taken : ℕ) (p m r p' m' r' o : List ℕ) → taken < 8 → IsUnderway a b taken p m r
    → HasLanes o (λ k. if_odd (get_or r k 0) (get_or m k 0))
    → HasLanes p' (λ k. bit_xor (get_or p k 0) (get_or o k 0))
    → HasLanes m' (λ k. double (get_or m k 0))
    → HasLanes r' (λ k. get_or r k 0 / 2)
    → IsUnderway a b (taken + 1) p' m' r'
next a b taken p m r p' m' r' o few h ho hp hm hr = record {
  product_long = hp.long;
  multiple_long = hm.long;
  bits_long = hr.long;
  each = λ k lt left e.
      let before : bit_xor (get_or p k 0) (mul_bits (suc left) (get_or m k 0) (get_or r k 0)) ≡ mul (get_or a k 0) (get_or b k 0) = h.each k lt (suc left) (omega arith) in
      let sum : get_or p' k 0 ≡ bit_xor (get_or p k 0) (if_odd (get_or r k 0) (get_or m k 0)) = hp.each k lt ∙ ap (bit_xor (get_or p k 0)) (ho.each k lt) in
      (λ i. bit_xor (sum i) (mul_bits left (hm.each k lt i) (hr.each k lt i)))
      ∙ one_bit (get_or p k 0) (get_or m k 0) (get_or r k 0) (mul (get_or a k 0) (get_or b k 0)) left before;
}

pub finished : (a b : List ℕ) (taken : ℕ) (p m r : List ℕ) → taken ≡ 8 → IsUnderway a b taken p m r → HasLanes p (λ k. mul (get_or a k 0) (get_or b k 0))
finished a b taken p m r all h = record {
  long = h.product_long;
  each = λ k lt. sym (xor_zero_r (get_or p k 0)) ∙ h.each k lt 0 (omega arith);
}
