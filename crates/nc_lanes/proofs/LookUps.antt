-- The product of a byte by those of its two halves, looked up in 16 lanes.
use Rattle.std.proofs.Common.{◌≡◌, ℕ, ◌+◌, ◌*◌, ◌/◌, ◌%◌, ◌^◌, ◌<◌, List, length, get_or, replicate, refl, sym, ap, ◌∙◌, arith, w8, bit_and, bit_xor, Fits}
use Rattle.std.specs.Simd.Lanes.{zip2, Each1}
use Rattle.std.proofs.lemmas.Simd.{length-swz_l, get_or-swz_l_below, swz_l, SwzOk, SwzOk-from_below, Each1-get_or, Each1-from_get_or}
use Rattle.std.proofs.lemmas.Nat.{and_mask}
use lib.Bits.{xor_shifted, xor_comm}
use Rattle.nc_gf256.specs.Field.{mul}
use Rattle.nc_gf256.proofs.FieldLaws.{mul-xor_right}
use Rattle.nc_lanes.specs.Lanes.{HasLanes}
use Rattle.nc_lanes.proofs.LaneLemmas.{HasLanes-splat, HasLanes-same}

pub low_halves : (v : List ℕ) → length v ≡ 32 → HasLanes (zip2 bit_and v (replicate 32 15)) (λ k. get_or v k 0 % 16)
low_halves v long =
    HasLanes-same (λ k. bit_and (get_or v k 0) 15) (λ k. get_or v k 0 % 16) (HasLanes-splat bit_and v 15 long) (λ k _. and_mask (get_or v k 0) 4)

pub high_halves : (v : List ℕ) → length v ≡ 32 → HasLanes (zip2 (λ a b. a / 2 ^ b) v (replicate 32 4)) (λ k. get_or v k 0 / 16)
high_halves v long = HasLanes-splat (λ a b. a / 2 ^ b) v 4 long

pub high_below : (v : List ℕ) → length v ≡ 32 → Each1 (Fits w8) v → (k : ℕ) → k < 32 → get_or v k 0 / 16 < 16
high_below v long fits k lt = omega (arith, (Each1-get_or (Fits w8) v k 0 (omega arith) fits).fits)

-- positions below 16 may be looked up
pub SwzOk-halves : (js : List ℕ) (f : ℕ → ℕ) → HasLanes js f → ((k : ℕ) → k < 32 → f k < 16) → SwzOk w8 16 32 0 js
SwzOk-halves js f h below =
    let long = h.long in
    SwzOk-from_below w8 16 2 32 0 js refl (omega arith) (Each1-from_get_or (λ j. j < 16) js 0 (λ i lt. omega (arith, h.each i (omega arith), below i (omega arith))))

-- what is found in a vector that holds 16 values twice
pub HasLanes-found : (g : ℕ → ℕ) (twice js : List ℕ) (f : ℕ → ℕ) → HasLanes twice (λ k. g (k % 16)) → HasLanes js f → ((k : ℕ) → k < 32 → f k < 16)
    → HasLanes (swz_l w8 16 twice 0 js) (λ k. g (f k))
HasLanes-found g twice js f t h below =
    let long = h.long in
    record {
      long = length-swz_l w8 16 twice 0 js ∙ long;
      each = λ k lt.
          let e = h.each k lt in
          let small = below k lt in
          get_or-swz_l_below w8 16 twice 0 js k (omega arith) (omega (arith, small))
          ∙ ap (λ j. get_or twice j 0) (omega arith)
          ∙ t.each (16 * (k / 16) + f k) (omega arith)
          ∙ ap g (omega arith);
    }

-- a byte is the sum of its halves
mul-halves : (c x : ℕ) → bit_xor (mul c (x % 16)) (mul c (16 * (x / 16))) ≡ mul c x
mul-halves c x =
    let e : bit_xor (x / 16 * 2 ^ 4) (x % 16) ≡ x / 16 * 2 ^ 4 + x % 16 = xor_shifted (x / 16) 4 (x % 16) (omega arith) in
    let order : 16 * (x / 16) ≡ x / 16 * 2 ^ 4 = omega arith in
    let all : x / 16 * 2 ^ 4 + x % 16 ≡ x = omega arith in
    sym (mul-xor_right c (x % 16) (16 * (x / 16)))
    ∙ ap (mul c) (xor_comm (x % 16) (16 * (x / 16)) ∙ ap (λ y. bit_xor y (x % 16)) order ∙ e ∙ all)

-- the sums of what both look-ups give
pub HasLanes-products : (c : ℕ) (v l h s : List ℕ) → HasLanes l (λ k. mul c (get_or v k 0 % 16)) → HasLanes h (λ k. mul c (16 * (get_or v k 0 / 16)))
    → HasLanes s (λ k. bit_xor (get_or l k 0) (get_or h k 0)) → HasLanes s (λ k. mul c (get_or v k 0))
HasLanes-products c v l h s pl ph ps = record {
  long = ps.long;
  each = λ k lt.
      ps.each k lt
      ∙ ap (λ y. bit_xor y (get_or h k 0)) (pl.each k lt)
      ∙ ap (bit_xor (mul c (get_or v k 0 % 16))) (ph.each k lt)
      ∙ mul-halves c (get_or v k 0);
}
