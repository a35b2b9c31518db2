-- The order of keys by their texts.
use Rattle.std.proofs.Common.{◌≡◌, ℕ, zero, suc, ◌+◌, ◌/◌, ◌%◌, ◌<◌, ◌≤◌, Bool, true, ◌&&◌, List, [], ◌∷◌, ◌++◌, slice_index, refl, sym, ap, ap₂, ◌∙◌, arith, nat_eq, nat_lt, inl, inr, if◌then◌else◌}
use Rattle.std.specs.declared.cmp.Ordering.{Ordering}
use Rattle.std.proofs.lemmas.Bool.{eqb-true}
use Rattle.std.proofs.lemmas.Bool.Decides.{nat_tests, leb_tells, Decides-below_and}
use Rattle.std.specs.Cmp.Lexicographic.{slice_cmp}
use Rattle.std.specs.declared.cmp.Ordering.TheVariants.{Less, Equal, Greater}
use Rattle.std.specs.Ordering.{nat_cmp, ordering_then}
use Rattle.hex.specs.Hex.{encode_lower, encode_with, lower_digits}
use Rattle.nc_bytes.specs.Bytes.{AreBytes}
use Rattle.nc_name.specs.declared.key.Key.{Key}
use Rattle.nc_name.specs.declared.key.Key.TheVariants.{Meta, Chunk}
use Rattle.nc_name.specs.Keys.{key_text, name_of}
use Rattle.nc_cloud.specs.Cloud.{key_order}

-- ---- numbers

cmp_less : (x y : ℕ) → x < y → nat_cmp x y ≡ Less
cmp_less x y l = grind (arith, nat_tests)

cmp_equal : (x y : ℕ) → x ≡ y → nat_cmp x y ≡ Equal
cmp_equal x y e = grind (arith, nat_tests)

cmp_greater : (x y : ℕ) → y < x → nat_cmp x y ≡ Greater
cmp_greater x y l = grind (arith, nat_tests)

data Three (x y : ℕ) : Type 0 where
  less : x < y → Three x y
  equal : x ≡ y → Three x y
  greater : y < x → Three x y

three : (x y : ℕ) → Three x y
three x y =
    elim (leb_tells (suc x) y) [
      | inl a ↦ less a.1
      | inr b ↦ elim (leb_tells (suc y) x) [ inl c ↦ greater c.1 | inr d ↦ equal (omega (arith, b.1, d.1)) ]
    ]

then_assoc : (a b c : Ordering) → ordering_then (ordering_then a b) c ≡ ordering_then a (ordering_then b c)
then_assoc Less b c = refl
then_assoc Equal b c = refl
then_assoc Greater b c = refl

then_equal : (a : Ordering) → ordering_then a Equal ≡ a
then_equal Less = refl
then_equal Equal = refl
then_equal Greater = refl

-- ---- digits

abbrev value : ℕ → ℕ
value k = if nat_lt k 10 then 48 + k else 87 + k

abbrev is_value : ℕ → Bool
is_value k = nat_eq (slice_index lower_digits k) (value k)

abbrev all_below : ℕ → Bool
all_below zero = true
all_below (suc n) = is_value n && all_below n

digit_is : (k : ℕ) → k < 16 → slice_index lower_digits k ≡ value k
digit_is k l = eqb-true (slice_index lower_digits k) (value k) ((Decides-below_and is_value (λ n. is_value n ≡ true) all_below (λ n. ((λ e. e), (λ e. e))) refl (λ n. refl) 16).0 refl k l)

value_grows : (a b : ℕ) → a < b → value a < value b
value_grows a b l = grind (arith, nat_tests)

digits_cmp : (a b : ℕ) → a < 16 → b < 16 → nat_cmp (slice_index lower_digits a) (slice_index lower_digits b) ≡ nat_cmp a b
digits_cmp a b l m =
    ap₂ nat_cmp (digit_is a l) (digit_is b m) ∙
    elim (three a b) [
      | less c ↦ cmp_less (value a) (value b) (value_grows a b c) ∙ sym (cmp_less a b c)
      | equal e ↦ cmp_equal (value a) (value b) (ap value e) ∙ sym (cmp_equal a b e)
      | greater c ↦ cmp_greater (value a) (value b) (value_grows b a c) ∙ sym (cmp_greater a b c)
    ]

-- a byte is compared by its two digits
halves_cmp : (x y : ℕ) → ordering_then (nat_cmp (x / 16) (y / 16)) (nat_cmp (x % 16) (y % 16)) ≡ nat_cmp x y
halves_cmp x y =
    elim (three (x / 16) (y / 16)) [
      | less c ↦ ap (λ o. ordering_then o (nat_cmp (x % 16) (y % 16))) (cmp_less (x / 16) (y / 16) c) ∙ sym (cmp_less x y (omega arith))
      | greater c ↦ ap (λ o. ordering_then o (nat_cmp (x % 16) (y % 16))) (cmp_greater (x / 16) (y / 16) c) ∙ sym (cmp_greater x y (omega arith))
      | equal e ↦ ap (λ o. ordering_then o (nat_cmp (x % 16) (y % 16))) (cmp_equal (x / 16) (y / 16) e) ∙
          elim (three (x % 16) (y % 16)) [
            | less c ↦ cmp_less (x % 16) (y % 16) c ∙ sym (cmp_less x y (omega arith))
            | equal f ↦ cmp_equal (x % 16) (y % 16) f ∙ sym (cmp_equal x y (omega arith))
            | greater c ↦ cmp_greater (x % 16) (y % 16) c ∙ sym (cmp_greater x y (omega arith))
          ]
    ]

-- ---- texts

-- a digit comes after the dash
dash_first : (k : ℕ) → k < 16 → 45 < slice_index lower_digits k
dash_first k l = let e : slice_index lower_digits k ≡ value k = digit_is k l in let v : 48 ≤ value k = grind (arith, nat_tests) in omega (arith, e, v)

hex_cmp : (n m : List ℕ) → AreBytes n → AreBytes m → (r s : List ℕ) → slice_cmp nat_cmp (encode_lower n ++ 45 ∷ r) (encode_lower m ++ 45 ∷ s) ≡ ordering_then (slice_cmp nat_cmp n m) (slice_cmp nat_cmp r s)
unfolding encode_with
hex_cmp [] [] h k r s = refl
hex_cmp [] (y ∷ m) h k r s = ap (λ o. ordering_then o (slice_cmp nat_cmp r (slice_index lower_digits (y % 16) ∷ (encode_lower m ++ 45 ∷ s)))) (cmp_less 45 (slice_index lower_digits (y / 16)) (dash_first (y / 16) (let b : y < 256 = k 0 in omega (arith, b))))
hex_cmp (x ∷ n) [] h k r s = ap (λ o. ordering_then o (slice_cmp nat_cmp (slice_index lower_digits (x % 16) ∷ (encode_lower n ++ 45 ∷ r)) s)) (cmp_greater (slice_index lower_digits (x / 16)) 45 (dash_first (x / 16) (let b : x < 256 = h 0 in omega (arith, b))))
hex_cmp (x ∷ n) (y ∷ m) h k r s =
    let a : x < 256 = h 0 in
    let b : y < 256 = k 0 in
    let rest : slice_cmp nat_cmp (encode_lower n ++ 45 ∷ r) (encode_lower m ++ 45 ∷ s) ≡ ordering_then (slice_cmp nat_cmp n m) (slice_cmp nat_cmp r s) = hex_cmp n m (λ i. h (suc i)) (λ i. k (suc i)) r s in
    ap₂ ordering_then (digits_cmp (x / 16) (y / 16) (omega (arith, a)) (omega (arith, b))) (ap₂ ordering_then (digits_cmp (x % 16) (y % 16) (omega arith) (omega arith)) rest)
    ∙ sym (then_assoc (nat_cmp (x / 16) (y / 16)) (nat_cmp (x % 16) (y % 16)) (ordering_then (slice_cmp nat_cmp n m) (slice_cmp nat_cmp r s)))
    ∙ ap (λ o. ordering_then o (ordering_then (slice_cmp nat_cmp n m) (slice_cmp nat_cmp r s))) (halves_cmp x y)
    ∙ sym (then_assoc (nat_cmp x y) (slice_cmp nat_cmp n m) (slice_cmp nat_cmp r s))

shifted : (s t : ℕ) → nat_cmp (48 + s) (48 + t) ≡ nat_cmp s t
shifted s t =
    elim (three s t) [
      | less c ↦ cmp_less (48 + s) (48 + t) (omega arith) ∙ sym (cmp_less s t c)
      | equal e ↦ cmp_equal (48 + s) (48 + t) (omega arith) ∙ sym (cmp_equal s t e)
      | greater c ↦ cmp_greater (48 + s) (48 + t) (omega arith) ∙ sym (cmp_greater s t c)
    ]

-- the order of keys is that of their texts
pub text_order : (a b : Key) → AreBytes (name_of a) → AreBytes (name_of b) → slice_cmp nat_cmp (key_text a) (key_text b) ≡ key_order a b
unfolding key_text
text_order (Meta n s) (Meta m t) h k =
    hex_cmp n m h k ((48 + s) ∷ []) ((48 + t) ∷ [])
    ∙ ap (ordering_then (slice_cmp nat_cmp n m)) (then_equal (nat_cmp (48 + s) (48 + t)) ∙ shifted s t)
text_order (Chunk n s r) (Chunk m t q) h k =
    hex_cmp n m h k ((48 + s) ∷ 45 ∷ (48 + r) ∷ []) ((48 + t) ∷ 45 ∷ (48 + q) ∷ [])
    ∙ ap (ordering_then (slice_cmp nat_cmp n m)) (ap₂ ordering_then (shifted s t) (then_equal (nat_cmp (48 + r) (48 + q)) ∙ shifted r q))
text_order (Meta n s) (Chunk m t q) h k = refl
text_order (Chunk n s r) (Meta m t) h k = refl
