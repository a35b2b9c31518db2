-- What the operations on vectors of 32 bytes hold at each lane.
use Rattle.std.proofs.Common.{◌≡◌, ℕ, ◌<◌, List, Bool, false, cond, length, get_or, replicate, refl, sym, ap, ◌∙◌, arith}
use Rattle.std.specs.Simd.Lanes.{zip2, sel_l}
use Rattle.std.proofs.lemmas.Simd.{length-zip2, get_or-zip2, get_or-replicate, length-sel_l, get_or-sel_l}
use Rattle.nc_lanes.specs.Lanes.{HasLanes}

-- the lanes, said otherwise
pub HasLanes-same : {v : List ℕ} (f g : ℕ → ℕ) → HasLanes v f → ((k : ℕ) → k < 32 → f k ≡ g k) → HasLanes v g
HasLanes-same f g h same = record { long = h.long; each = λ k lt. h.each k lt ∙ same k lt }

-- an operator on two vectors
pub HasLanes-zip2 : (f : ℕ → ℕ → ℕ) (a b : List ℕ) → length a ≡ 32 → length b ≡ 32 → HasLanes (zip2 f a b) (λ k. f (get_or a k 0) (get_or b k 0))
HasLanes-zip2 f a b p q = record {
  long = length-zip2 f a b (p ∙ sym q) ∙ p;
  each = λ k lt. get_or-zip2 f a b k 0 0 0 (omega arith) (omega arith);
}

-- an operator on a vector and a splat
pub HasLanes-splat : (f : ℕ → ℕ → ℕ) (a : List ℕ) (x : ℕ) → length a ≡ 32 → HasLanes (zip2 f a (replicate 32 x)) (λ k. f (get_or a k 0) x)
HasLanes-splat f a x p =
    let h = HasLanes-zip2 f a (replicate 32 x) p refl in
    record { long = h.long; each = λ k lt. h.each k lt ∙ ap (f (get_or a k 0)) (get_or-replicate 32 k x 0 lt) }

-- the lanes of x where a test of those of a and b passes, else those of y
pub HasLanes-chosen : (t : ℕ → ℕ → Bool) (a b x y : List ℕ) → length a ≡ 32 → length b ≡ 32 → length x ≡ 32 → length y ≡ 32
    → HasLanes (sel_l (zip2 t a b) x y) (λ k. cond (t (get_or a k 0) (get_or b k 0)) (get_or x k 0) (get_or y k 0))
HasLanes-chosen t a b x y la lb lx ly =
    let long : length (zip2 t a b) ≡ 32 = length-zip2 t a b (la ∙ sym lb) ∙ la in
    record {
      long = length-sel_l (zip2 t a b) x y (long ∙ sym lx) (long ∙ sym ly) ∙ long;
      each = λ k lt.
          get_or-sel_l (zip2 t a b) x y k 0 (omega arith) (omega arith) (omega arith)
          ∙ ap (λ m. cond m (get_or x k 0) (get_or y k 0)) (get_or-zip2 t a b k 0 0 false (omega arith) (omega arith));
    }
