-- Lists of the same length, end to end.
use Rattle.std.proofs.Common.{arith, refl, sym, ap, ap₂, ◌∙◌, append_assoc, length-append}
use Rattle.std.proofs.Math.Nat.{zero-mul, suc-mul}
use Rattle.std.proofs.Math.Seq.{take-add}
use Rattle.std.proofs.lemmas.Bool.{cases_lt}
use Rattle.std.proofs.lemmas.List.{drop-drop}
use Rattle.std.specs.Prelude.{ℕ, ◌≡◌, ◌+◌, ◌*◌, ◌<◌, zero, suc, List, ◌++◌, length, take, drop}
use Rattle.std.proofs.Common.{inl, inr}
use Rattle.nc_bytes.specs.Bytes.{part}
use Rattle.nc_bytes.proofs.Places.{splits}
use Rattle.nc_meta.specs.Parts.{each}

-- a part, and what follows it
pub part_more : (at a b : ℕ) (xs : List ℕ) → part at a xs ++ part (at + a) b xs ≡ part at (a + b) xs
part_more at a b xs =
    ap (λ (r : List ℕ). take a (drop at xs) ++ take b r) (sym (drop-drop a at xs)) ∙ sym (take-add a b (drop at xs))

-- parts of one length, end to end
pub each_parts : (k at size : ℕ) (xs : List ℕ) → each k (λ i. part (at + i * size) size xs) ≡ part at (k * size) xs
each_parts zero at size xs = sym (ap (λ n. take n (drop at xs)) (zero-mul size))
each_parts (suc k) at size xs =
    ap (λ (l : List ℕ). l ++ part (at + k * size) size xs) (each_parts k at size xs) ∙ part_more at (k * size) size xs
    ∙ ap (λ n. part at n xs) (sym (suc-mul k size))

pub each_same : (k : ℕ) (f g : ℕ → List ℕ) → ((i : ℕ) → i < k → f i ≡ g i) → each k f ≡ each k g
each_same zero f g same = refl
each_same (suc k) f g same = ap₂ (λ (l r : List ℕ). l ++ r) (each_same k f g (λ i h. same i (omega arith))) (same k (omega arith))

pub length-each : (k size : ℕ) (f : ℕ → List ℕ) → ((i : ℕ) → i < k → length (f i) ≡ size) → length (each k f) ≡ k * size
length-each zero size f sizes = sym (zero-mul size)
length-each (suc k) size f sizes =
    let front = length-each k size f (λ i h. sizes i (omega arith)) in
    let last : length (f k) ≡ size = sizes k (omega arith) in
    omega (arith, length-append (each k f) (f k), suc-mul k size, front)

-- one of them, from its place
pub each_at : (k at size : ℕ) (f : ℕ → List ℕ) (xs rest : List ℕ) → ((i : ℕ) → i < k → length (f i) ≡ size)
    → drop at xs ≡ each k f ++ rest → (i : ℕ) → i < k → part (at + i * size) size xs ≡ f i
each_at zero at size f xs rest sizes e i l = absurd (omega arith)
each_at (suc k) at size f xs rest sizes e i l =
    let front : (j : ℕ) → j < k → length (f j) ≡ size = λ j h. sizes j (omega arith) in
    let flat = e ∙ append_assoc (each k f) (f k) rest in
    elim (cases_lt i k) [
      | inl low ↦ each_at k at size f xs (f k ++ rest) front flat i low
      | inr high ↦
          let same : i ≡ k = omega arith in
          let after = splits at (k * size) xs (each k f) (f k ++ rest) (length-each k size f front) flat in
          let here = splits (at + k * size) size xs (f k) rest (sizes k (omega arith)) after.rest in
          ap (λ j. part (at + j * size) size xs) same ∙ here.here ∙ ap f (sym same)
    ]

-- a writer's step
pub more : (k : ℕ) (f : ℕ → List ℕ) (old now new : List ℕ) → now ≡ old ++ each k f → new ≡ now ++ f k → new ≡ old ++ each (k + 1) f
more k f old now new a b =
    let e : k + 1 ≡ suc k = omega arith in
    b ∙ ap (λ (l : List ℕ). l ++ f k) a ∙ append_assoc old (each k f) (f k) ∙ ap (λ n. old ++ each n f) (sym e)
