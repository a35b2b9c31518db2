-- Lists that are joined of parts, and where the parts stand.
use Rattle.std.proofs.Common.{arith, refl, sym, ap, ap₂, ◌∙◌, take-append-drop}
use Rattle.std.proofs.lemmas.Bool.{cases_lt}
use Rattle.std.proofs.lemmas.List.{drop-drop, drop-append-le, drop_at, drop_more, get_or-drop, get_or-take, get_or_past, length-drop, length-take, length-take-le, take-append-le, take_at}
use Rattle.std.specs.Prelude.{ℕ, zero, suc, ◌≡◌, ◌+◌, ◌<◌, ◌≤◌, List, [], ◌∷◌, ◌++◌, length, slice_index, take, drop}
use Rattle.std.proofs.Common.{inl, inr}
use Rattle.nc_bytes.specs.Bytes.{AreBytes, part}

-- what stands from a place on is the part there and what stands after it
pub joins : (at n : ℕ) (xs a b : List ℕ) → part at n xs ≡ a → drop (at + n) xs ≡ b → drop at xs ≡ a ++ b
joins at n xs a b here rest =
    sym (take-append-drop n (drop at xs)) ∙ ap₂ (λ (l r : List ℕ). l ++ r) here (drop-drop n at xs ∙ rest)

pub record Split (at n : ℕ) (xs a b : List ℕ) : Type 0 where
  pub here : part at n xs ≡ a
  pub rest : drop (at + n) xs ≡ b

-- the other way round
pub splits : (at n : ℕ) (xs a b : List ℕ) → length a ≡ n → drop at xs ≡ a ++ b → Split at n xs a b
splits at n xs a b size e = record {
  here = ap (take n) e ∙ take_at a b n size;
  rest = sym (drop-drop n at xs) ∙ ap (drop n) e ∙ drop_at a b n size;
}

pub length-part : (at n : ℕ) (xs : List ℕ) → at + n ≤ length xs → length (part at n xs) ≡ n
length-part at n xs fits = let room : n ≤ length (drop at xs) = omega (arith, length-drop at xs) in length-take-le n (drop at xs) room

pub part_bytes : (at n : ℕ) (xs : List ℕ) → AreBytes xs → AreBytes (part at n xs)
part_bytes at n xs are i = elim (cases_lt i n) [
  | inl low ↦ let e = get_or-take n (drop at xs) i 0 low ∙ get_or-drop at xs i 0 in rw e (are (at + i))
  | inr high ↦
      let size : length (take n (drop at xs)) ≤ i = omega (arith, length-take n (drop at xs)) in
      let e = get_or_past (take n (drop at xs)) i 0 size in
      rw e (omega arith)
]

pub cons_bytes : (x : ℕ) (xs : List ℕ) → x < 256 → AreBytes xs → AreBytes (x ∷ xs)
cons_bytes x xs small are zero = small
cons_bytes x xs small are (suc i) = are i

pub no_bytes : AreBytes []
no_bytes i = omega arith

-- a part of a beginning
pub part_of_front : (at n : ℕ) (front rest : List ℕ) → at + n ≤ length front → part at n (front ++ rest) ≡ part at n front
part_of_front at n front rest fits =
    let room : n ≤ length (drop at front) = omega (arith, length-drop at front) in
    ap (take n) (drop-append-le at front rest (omega arith)) ∙ take-append-le n (drop at front) rest room

-- a part of two elements
pub two_at : (at : ℕ) (xs : List ℕ) → at + 2 ≤ length xs → part at 2 xs ≡ slice_index xs at ∷ slice_index xs (at + 1) ∷ []
two_at at xs fits =
    let first = drop_more xs at 0 (omega arith) in
    let second = drop_more xs (at + 1) 0 (omega arith) in
    rw (first, second) refl
