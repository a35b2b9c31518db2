-- Sums that lie side by side, placed one after another or in groups.
use Rattle.std.proofs.Common.{◌≡◌, ℕ, zero, suc, ◌+◌, ◌-◌, ◌*◌, ◌/◌, ◌%◌, ◌<◌, ◌≤◌, List, ◌++◌}
use Rattle.std.proofs.Common.{length, take, drop, min, inl, inr, sym, ◌∙◌, ap, arith}
use Rattle.std.proofs.lemmas.List.{length-append, length-drop, length-take, length-take-le}
use Rattle.std.proofs.lemmas.List.{take_at, drop_at, take-take, drop-take, drop-drop}
use Rattle.std.proofs.lemmas.Nat.{div-add-mod', div-mul-add, mod_below, mul-le, row_fits}
use Rattle.std.proofs.lemmas.Bool.{cases_lt}
use Rattle.std.proofs.Math.Nat.{mul_assoc}
use Rattle.std.proofs.lemmas.Grind.{div_ceil_times}
use Rattle.std.specs.Fork.{slice_chunk}
use Rattle.std.specs.Int.{div_ceil}
use Rattle.nc_bytes.specs.Bytes.{part}
use Rattle.nc_mix.specs.declared.strips.Strip.{Strip}
use Rattle.nc_mix.specs.Placing.{ArePlaced, placed}

-- a part of what stands past some place
pub part_past : (past at n : ℕ) (xs : List ℕ) → part (past + at) n xs ≡ part at n (drop past xs)
part_past past at n xs = ap (take n) (sym (drop-drop at past xs))

-- a part of a beginning
part_within : (at n m : ℕ) (xs : List ℕ) → at + n ≤ m → part at n (take m xs) ≡ part at n xs
part_within at n m xs fits =
    let whole : at + (m - at) ≡ m = omega arith in
    ap (λ j. part at n (take j xs)) (sym whole)
    ∙ ap (take n) (drop-take at (m - at) xs)
    ∙ take-take n (m - at) (drop at xs) (omega arith)

-- the sum at the front is one of so many
pub below_rows : (first rows size : ℕ) → 0 < size → first * size + size ≤ rows * size → first < rows
below_rows first rows size some fits = elim (cases_lt first rows) [
  | inl h ↦ h
  | inr past ↦
      let up : rows * size ≤ first * size = mul-le rows size first size past (omega arith) in
      absurd (omega (arith, up, fits, some))
]

module _ (first size : ℕ) (strips : List Strip) (sums sum others new rest : List ℕ) where
  -- the first sum got its parts, and then the others
  record PlacedOn : Type 0 where
    long : length new ≡ size
    left : length others + size ≡ length sums
    front : new ≡ placed first strips (take size sums)
    back : others ≡ drop size sums
    on : ArePlaced (first + 1) size strips others rest

  place_each : PlacedOn → (j : ℕ) → j * size + size ≤ length sums →
      part (j * size) size (new ++ rest) ≡ placed (first + j) strips (part (j * size) size sums)
  place_each p zero h =
      let none : 0 * size ≡ 0 = omega arith in
      let number : first ≡ first + 0 = omega arith in
      ap (λ k. part k size (new ++ rest)) none
      ∙ take_at new rest size p.long
      ∙ p.front
      ∙ (λ i. placed (number i) strips (part (sym none i) size sums))
  place_each p (suc j) h =
      let more : suc j * size ≡ size + j * size = omega arith in
      let number : first + 1 + j ≡ first + suc j = omega arith in
      let left = p.left in
      ap (λ k. part k size (new ++ rest)) more
      ∙ part_past size (j * size) size (new ++ rest)
      ∙ ap (part (j * size) size) (drop_at new rest size p.long)
      ∙ p.on.each j (omega (arith, h, more, left))
      ∙ (λ i. placed (number i) strips (part (j * size) size (p.back i)))
      ∙ ap (placed (first + suc j) strips)
      (sym (part_past size (j * size) size sums) ∙ ap (λ k. part k size sums) (sym more))

  pub place_more : size ≤ length sums → sum ≡ take size sums → others ≡ drop size sums →
      length new ≡ length sum → new ≡ placed first strips sum →
      ArePlaced (first + 1) size strips others rest →
      ArePlaced first size strips sums (new ++ rest)
  place_more fits a b same put on =
      let long : length new ≡ size = same ∙ ap length a ∙ length-take-le size sums fits in
      let behind : length others ≡ length sums - size = ap length b ∙ length-drop size sums in
      let left : length others + size ≡ length sums = omega (arith, behind, fits) in
      let kept : length rest ≡ length others = on.same_length in
      let p : PlacedOn = record {
        long = long;
        left = left;
        front = put ∙ ap (placed first strips) a;
        back = b;
        on = on;
      } in
      record {
        same_length = length-append new rest ∙ omega (arith, long, left, kept);
        each = place_each p;
      }

-- some rows, shared out among workers, make a group of some
pub some_rows : (rows workers count : ℕ) → 0 < rows → 0 < workers → count ≡ div_ceil rows workers →
    0 < count
some_rows rows workers count some any is = elim (cases_lt 0 count) [
  | inl h ↦ h
  | inr none ↦
      let up : rows ≤ div_ceil rows workers * workers = (div_ceil_times rows workers any).0 in
      let e : count * workers ≡ div_ceil rows workers * workers = ap (λ k. k * workers) is in
      let few : count * workers ≤ 0 * workers = mul-le count workers 0 workers none (omega arith) in
      absurd (omega (arith, up, e, few, some))
]

-- the places of group n, and of sum r in it
module _ (n count r size group : ℕ) (is : group ≡ count * size) where
  group_at : n * group ≡ n * count * size
  group_at = ap (λ k. n * k) is ∙ sym (mul_assoc n count size)

  place_at : n * group + r * size ≡ (n * count + r) * size
  place_at = let e = group_at in omega (arith, e)

  number_at : 0 < size → (n * group) / size ≡ n * count
  number_at some =
      let e : n * group ≡ n * count * size + 0 = let whole = group_at in omega (arith, whole) in
      ap (λ k. k / size) e ∙ div-mul-add (n * count) size 0 some

module _ (count size group : ℕ) (strips : List Strip) (old new : List ℕ) where
  -- what is placed in each group, of so many sums, is placed in all
  pub place_groups : 0 < count → 0 < size → group ≡ count * size → length new ≡ length old →
      ((n : ℕ) → n * group < length old →
      ArePlaced ((n * group) / size) size strips (slice_chunk old group n)
      (slice_chunk new group n)) →
      ArePlaced 0 size strips old new
  place_groups some some_byte is same groups = record {
    same_length = same;
    each = λ j h.
        let n : ℕ = j / count in
        let r : ℕ = j % count in
        let whole : n * count + r ≡ j = div-add-mod' j count in
        let place : n * group + r * size ≡ j * size =
        place_at n count r size group is ∙ ap (λ k. k * size) whole in
        let row_end : r * size + size ≤ group =
        let e = row_fits r size count size (mod_below j count some) (omega arith) in
        omega (arith, e, is) in
        let bound : n * group < length old = omega (arith, place, h, some_byte) in
        let long : length (slice_chunk old group n) ≡ min group (length old - n * group) =
        length-take group (drop (n * group) old)
        ∙ ap (min group) (length-drop (n * group) old) in
        let inside : r * size + size ≤ length (slice_chunk old group n) =
        omega (arith, long, row_end, place, h) in
        let number : (n * group) / size + r ≡ 0 + j =
        let e = number_at n count r size group is some_byte in omega (arith, e, whole) in
        let read : (xs : List ℕ) →
        part (r * size) size (slice_chunk xs group n) ≡ part (j * size) size xs =
        λ xs. part_within (r * size) size group (drop (n * group) xs) row_end
        ∙ sym (part_past (n * group) (r * size) size xs)
        ∙ ap (λ p. part p size xs) place in
        sym (read new)
        ∙ (groups n bound).each r inside
        ∙ (λ i. placed (number i) strips (read old i));
  }
