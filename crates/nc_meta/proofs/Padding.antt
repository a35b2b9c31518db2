-- Bytes with zeros after them.
use Rattle.std.proofs.Common.{arith, refl, sym, ap, ap₂, ◌∙◌, append_assoc, length-append, inl, inr, take-append-drop}
use Rattle.nc_bytes.specs.Bytes.{padded}
use Rattle.nc_gf256.proofs.RowSums.{zeros_everywhere}
use Rattle.std.proofs.lemmas.Bool.{cases_lt}
use Rattle.std.proofs.lemmas.List.{append-nil, drop-drop, drop_at, get_or-append_right, get_or_append_left, get_or-drop, get_or-replicate, get_or-take, get_or_at, get_or_past, length-drop, length-replicate, length-take, length-take-le, take_at}
use Rattle.std.specs.Prelude.{ℕ, ◌≡◌, ◌+◌, ◌-◌, ◌<◌, ◌≤◌, zero, suc, List, [], ◌∷◌, ◌++◌, length, replicate, slice_index, take, drop}
use Rattle.nc_meta.specs.Parts.{of_survivors, spread}

-- ---- all below a bound

-- each element is below the bound
abbrev pub Below : ℕ → List ℕ → Type 0
Below bound xs = (i : ℕ) → slice_index xs i < bound

pub below_none : (bound : ℕ) → 0 < bound → Below bound []
below_none bound some i = some

pub below_cons : (bound x : ℕ) (xs : List ℕ) → x < bound → Below bound xs → Below bound (x ∷ xs)
below_cons bound x xs small all zero = small
below_cons bound x xs small all (suc i) = all i

pub below_append : (bound : ℕ) (xs ys : List ℕ) → Below bound xs → Below bound ys → Below bound (xs ++ ys)
below_append bound xs ys a b i = elim (cases_lt i (length xs)) [
  | inl low ↦ let e = get_or_append_left xs ys 0 i low in rw e (a i)
  | inr high ↦ let e = get_or-append_right xs ys (length xs) i 0 refl high in rw e (b (i - length xs))
]

pub below_take : (bound n : ℕ) (xs : List ℕ) → 0 < bound → Below bound xs → Below bound (take n xs)
below_take bound n xs some all i = elim (cases_lt i n) [
  | inl low ↦ let e = get_or-take n xs i 0 low in rw e (all i)
  | inr high ↦
      let size : length (take n xs) ≤ i = omega (arith, length-take n xs) in
      let e = get_or_past (take n xs) i 0 size in
      rw e some
]

pub below_drop : (bound n : ℕ) (xs : List ℕ) → Below bound xs → Below bound (drop n xs)
below_drop bound n xs all i = let e = get_or-drop n xs i 0 in rw e (all (n + i))

-- what is asked within the list holds past it
pub below_within : (bound : ℕ) (xs : List ℕ) → 0 < bound → ((i : ℕ) → i < length xs → slice_index xs i < bound) → Below bound xs
below_within bound xs some all i = elim (cases_lt i (length xs)) [
  | inl low ↦ all i low
  | inr high ↦ let e = get_or_past xs i 0 high in rw e some
]

-- ---- zeros

pub padded_past : (size : ℕ) (xs : List ℕ) (t : ℕ) → length xs ≤ t → slice_index (padded size xs) t ≡ 0
padded_past size xs t past =
    get_or-append_right xs (replicate (size - length xs) 0) (length xs) t 0 refl past ∙ zeros_everywhere (size - length xs) (t - length xs)

pub padded_below : (bound size : ℕ) (xs : List ℕ) → 0 < bound → Below bound xs → Below bound (padded size xs)
padded_below bound size xs some all =
    below_append bound xs (replicate (size - length xs) 0) all (λ i. rw zeros_everywhere some)

pub length-padded : (size : ℕ) (xs : List ℕ) → length xs ≤ size → length (padded size xs) ≡ size
length-padded size xs fits =
    omega (arith, length-append xs (replicate (size - length xs) 0), length-replicate {A = ℕ} (size - length xs) 0)

pub take_padded : (size n : ℕ) (xs : List ℕ) → length xs ≡ n → take n (padded size xs) ≡ xs
take_padded size n xs long = take_at xs (replicate (size - length xs) 0) n long

-- ---- the survivors of a loss

abbrev pub gap : ℕ → List ℕ → List ℕ
gap lost bytes = take lost bytes ++ (0 ∷ drop lost bytes)

pub length-gap : (lost : ℕ) (bytes : List ℕ) → lost ≤ length bytes → length (gap lost bytes) ≡ length bytes + 1
length-gap lost bytes within =
    omega (arith, length-append (take lost bytes) (0 ∷ drop lost bytes), length-take-le lost bytes within, length-drop lost bytes)

pub length-spread : (lost : ℕ) (bytes : List ℕ) → lost ≤ length bytes → length bytes < 10 → length (spread lost bytes) ≡ 10
length-spread lost bytes within short = length-padded 10 (gap lost bytes) (omega (arith, length-gap lost bytes within))

pub spread_below : (bound lost : ℕ) (bytes : List ℕ) → 0 < bound → Below bound bytes → Below bound (spread lost bytes)
spread_below bound lost bytes some all =
    padded_below bound 10 (gap lost bytes) some
    (below_append bound (take lost bytes) (0 ∷ drop lost bytes) (below_take bound lost bytes some all) (below_cons bound 0 (drop lost bytes) some (below_drop bound lost bytes all)))

pub spread_lost : (lost : ℕ) (bytes : List ℕ) → lost ≤ length bytes → slice_index (spread lost bytes) lost ≡ 0
spread_lost lost bytes within =
    let inside : lost < length (gap lost bytes) = omega (arith, length-gap lost bytes within) in
    get_or_append_left (gap lost bytes) (replicate (10 - length (gap lost bytes)) 0) 0 lost inside
    ∙ get_or_at (take lost bytes) 0 (drop lost bytes) 0 lost (length-take-le lost bytes within)

pub spread_past : (lost : ℕ) (bytes : List ℕ) (t : ℕ) → lost ≤ length bytes → length bytes + 1 ≤ t → slice_index (spread lost bytes) t ≡ 0
spread_past lost bytes t within past = padded_past 10 (gap lost bytes) t (omega (arith, length-gap lost bytes within))

pub of_spread : (n lost : ℕ) (bytes : List ℕ) → lost < n → length bytes + 1 ≡ n → of_survivors n lost (spread lost bytes) ≡ bytes
of_spread n lost bytes within long =
    let zeros = replicate (10 - length (gap lost bytes)) 0 in
    let size : length (take lost bytes) ≡ lost = length-take-le lost bytes (omega arith) in
    let flat : spread lost bytes ≡ take lost bytes ++ (0 ∷ (drop lost bytes ++ zeros)) = append_assoc (take lost bytes) (0 ∷ drop lost bytes) zeros in
    let before : take lost (spread lost bytes) ≡ take lost bytes = ap (take lost) flat ∙ take_at (take lost bytes) (0 ∷ (drop lost bytes ++ zeros)) lost size in
    let from : drop lost (spread lost bytes) ≡ 0 ∷ (drop lost bytes ++ zeros) = ap (drop lost) flat ∙ drop_at (take lost bytes) (0 ∷ (drop lost bytes ++ zeros)) lost size in
    let after : drop (lost + 1) (spread lost bytes) ≡ drop lost bytes ++ zeros = sym (drop-drop 1 lost (spread lost bytes)) ∙ ap (drop 1) from in
    let rest : length (drop lost bytes) ≡ n - (lost + 1) = omega (arith, length-drop lost bytes) in
    let last = ap (take (n - (lost + 1))) after ∙ take_at (drop lost bytes) zeros (n - (lost + 1)) rest in
    ap₂ (λ (l r : List ℕ). l ++ r) before last ∙ take-append-drop lost bytes

pub padded_full : (size : ℕ) (xs : List ℕ) → length xs ≡ size → padded size xs ≡ xs
padded_full size xs full =
    let none : size - length xs ≡ 0 = omega arith in
    ap (λ n. xs ++ replicate n 0) none ∙ append-nil xs
