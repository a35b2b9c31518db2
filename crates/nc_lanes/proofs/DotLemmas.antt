-- Dot products 32 places at a time, and one place more.
use Rattle.std.proofs.Common.{◌≡◌, ℕ, suc, ◌+◌, List, [], ◌∷◌, length, slice_index, replicate, refl, sym, ap, ◌∙◌, arith, bit_xor}
use Rattle.std.specs.Simd.Lanes.{fold_l}
use Rattle.std.proofs.lemmas.Simd.{get_or-replicate}
use lib.Bits.{xor_assoc, xor_zero_l, xor_zero_r}
use Rattle.nc_gf256.specs.Field.{mul, total}
use Rattle.nc_gf256.specs.Rows.{dot}
use Rattle.nc_gf256.proofs.Sums.{total_same, total_none, total-xor, total_split, total_more}
use Rattle.nc_lanes.specs.Lanes.{HasLanes}

-- the sum of the lanes is the dot product of the first places
pub record AreSums (places : ℕ) (a b sums : List ℕ) : Type 0 where
  pub long : length sums ≡ 32
  pub whole : total 32 (λ k. slice_index sums k) ≡ dot places a b

pub no_sums : (a b : List ℕ) → AreSums 0 a b (replicate 32 0)
unfolding total
no_sums a b = record {
  long = refl;
  whole = total_none 32 (λ k. slice_index (replicate 32 0) k) (λ k lt. get_or-replicate 32 k 0 0 lt);
}

pub more_sums : (places next : ℕ) (a b x y p sums sums' : List ℕ) → next ≡ places + 32 → AreSums places a b sums
    → HasLanes x (λ k. slice_index a (places + k)) → HasLanes y (λ k. slice_index b (places + k))
    → HasLanes p (λ k. mul (slice_index x k) (slice_index y k)) → HasLanes sums' (λ k. bit_xor (slice_index sums k) (slice_index p k))
    → AreSums next a b sums'
more_sums places next a b x y p sums sums' e h hx hy hp hs = record {
  long = hs.long;
  whole =
      total_same 32 (λ k. slice_index sums' k) (λ k. bit_xor (slice_index sums k) (mul (slice_index a (places + k)) (slice_index b (places + k))))
      (λ k lt. hs.each k lt ∙ ap (bit_xor (slice_index sums k)) (hp.each k lt ∙ (λ i. mul (hx.each k lt i) (hy.each k lt i))))
      ∙ total-xor 32 (λ k. slice_index sums k) (λ k. mul (slice_index a (places + k)) (slice_index b (places + k)))
      ∙ ap (λ s. bit_xor s (total 32 (λ k. mul (slice_index a (places + k)) (slice_index b (places + k))))) h.whole
      ∙ sym (total_split places 32 (λ k. mul (slice_index a k) (slice_index b k)))
      ∙ ap (λ n. dot n a b) (sym e);
}

total_front : (x : ℕ) (xs : List ℕ) → total (length (x ∷ xs)) (λ k. slice_index (x ∷ xs) k) ≡ bit_xor x (total (length xs) (λ k. slice_index xs k))
unfolding total
total_front x xs =
    let f : ℕ → ℕ = λ k. slice_index (x ∷ xs) k in
    let e : suc (length xs) ≡ 1 + length xs = omega arith in
    ap (λ n. total n f) e
    ∙ total_split 1 (length xs) f
    ∙ ap (λ s. bit_xor s (total (length xs) (λ i. f (1 + i)))) (xor_zero_l x)
    ∙ ap (bit_xor x) (total_same (length xs) (λ i. f (1 + i)) (λ i. slice_index xs i) (λ i _. let next : 1 + i ≡ suc i = omega arith in ap f next))

fold_is : (xs : List ℕ) (start : ℕ) → fold_l bit_xor start xs ≡ bit_xor start (total (length xs) (λ k. slice_index xs k))
unfolding total
fold_is [] start = sym (xor_zero_r start)
fold_is (x ∷ xs) start =
    fold_is xs (bit_xor start x)
    ∙ xor_assoc start x (total (length xs) (λ k. slice_index xs k))
    ∙ ap (bit_xor start) (sym (total_front x xs))

pub reduced : (xs : List ℕ) → length xs ≡ 32 → fold_l bit_xor 0 xs ≡ total 32 (λ k. slice_index xs k)
reduced xs long = fold_is xs 0 ∙ xor_zero_l (total (length xs) (λ k. slice_index xs k)) ∙ ap (λ n. total n (λ k. slice_index xs k)) long

pub dot_none : (a b : List ℕ) → dot 0 a b ≡ 0
unfolding total
dot_none a b = refl

pub dot_more : (n : ℕ) (a b : List ℕ) → dot (n + 1) a b ≡ bit_xor (dot n a b) (mul (slice_index a n) (slice_index b n))
dot_more n a b = total_more n (λ i. mul (slice_index a i) (slice_index b i))
