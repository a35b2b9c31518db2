-- Elements by their numbers.
use Rattle.std.proofs.Common.{◌≡◌, ℕ, zero, suc, ◌+◌, ◌<◌, List, [], ◌∷◌, ◌++◌, map, length, get_or, take, drop, refl, sym, ap, ◌∙◌, ap₂, arith}
use Rattle.std.proofs.Math.ListN.{set}
use Rattle.std.proofs.lemmas.List.{map-append, take-append-drop}
use Rattle.nc_cloud.proofs.Served.{get_front, set_front, shorter}
use Rattle.nc_memory.specs.Record.{numbered}

module _ {A B : Type 0} (g : ℕ → A → B) where
  pub length-numbered : (n : ℕ) (xs : List A) → length (numbered g n xs) ≡ length xs
  length-numbered n [] = refl
  length-numbered n (x ∷ xs) = ap suc (length-numbered (n + 1) xs)

  pub get_or-numbered : (n : ℕ) (xs : List A) (i : ℕ) (d : A) (e : B) → i < length xs → get_or (numbered g n xs) i e ≡ g (n + i + 1) (get_or xs i d)
  get_or-numbered n [] i d e l = absurd (omega arith)
  get_or-numbered n (x ∷ xs) zero d e l = let same : n + 1 ≡ n + 0 + 1 = omega arith in ap (λ k. g k x) same
  get_or-numbered n (x ∷ xs) (suc i) d e l =
      let same : n + 1 + i + 1 ≡ n + suc i + 1 = omega arith in
      get_or-numbered (n + 1) xs i d e (omega arith) ∙ ap (λ k. g k (get_or xs i d)) same

  -- one more
  pub numbered_more : (n : ℕ) (xs : List A) (i : ℕ) (d : A) → i < length xs → numbered g n (take (i + 1) xs) ≡ numbered g n (take i xs) ++ g (n + i + 1) (get_or xs i d) ∷ []
  numbered_more n [] i d l = absurd (omega arith)
  numbered_more n (x ∷ xs) zero d l = let same : n + 1 ≡ n + 0 + 1 = omega arith in ap (λ k. g k x ∷ []) same
  numbered_more n (x ∷ xs) (suc i) d l =
      let same : n + 1 + i + 1 ≡ n + suc i + 1 = omega arith in
      let next : suc i + 1 ≡ suc (i + 1) = omega arith in
      ap (λ k. numbered g n (take k (x ∷ xs))) next ∙ ap (λ ys. g (n + 1) x ∷ ys) (numbered_more (n + 1) xs i d (omega arith) ∙ ap (λ k. numbered g (n + 1) (take i xs) ++ g k (get_or xs i d) ∷ []) same)

  -- one more of what f makes of each
  pub numbered_map_more : {C : Type 0} (f : C → A) (n : ℕ) (xs : List C) (i : ℕ) (d : C) → i < length xs → numbered g n (map f (take (i + 1) xs)) ≡ numbered g n (map f (take i xs)) ++ g (n + i + 1) (f (get_or xs i d)) ∷ []
  numbered_map_more f n [] i d l = absurd (omega arith)
  numbered_map_more f n (x ∷ xs) zero d l = let same : n + 1 ≡ n + 0 + 1 = omega arith in ap (λ k. g k (f x) ∷ []) same
  numbered_map_more f n (x ∷ xs) (suc i) d l =
      let same : n + 1 + i + 1 ≡ n + suc i + 1 = omega arith in
      let next : suc i + 1 ≡ suc (i + 1) = omega arith in
      ap (λ k. numbered g n (map f (take k (x ∷ xs)))) next
      ∙ ap (λ ys. g (n + 1) (f x) ∷ ys) (numbered_map_more f (n + 1) xs i d (omega arith) ∙ ap (λ k. numbered g (n + 1) (map f (take i xs)) ++ g k (f (get_or xs i d)) ∷ []) same)

  -- what no number changes
  pub map-numbered : {C : Type 0} (p : B → C) (q : A → C) → ((k : ℕ) (x : A) → p (g k x) ≡ q x) → (n : ℕ) (xs : List A) → map p (numbered g n xs) ≡ map q xs
  map-numbered p q same n [] = refl
  map-numbered p q same n (x ∷ xs) = ap₂ (λ y ys. y ∷ ys) (same (n + 1) x) (map-numbered p q same (n + 1) xs)

module _ {A : Type 0} (old xs : List A) (i : ℕ) (d y : A) (l : i < length old) where
  -- each by its number
  pub numbered_set : (g : ℕ → A → A) (n : ℕ) → xs ≡ numbered g n (take i old) ++ drop i old → y ≡ g (n + i + 1) (get_or xs i d) → set xs i y ≡ numbered g n (take (i + 1) old) ++ drop (i + 1) old
  numbered_set g n e is =
      let front : List A = numbered g n (take i old) in
      let long : length front ≡ i = length-numbered g n (take i old) ∙ shorter old xs i d y l in
      let here : get_or xs i d ≡ get_or old i d = ap (λ ys. get_or ys i d) e ∙ get_front front old i d l long in
      ap (λ ys. set ys i y) e ∙ set_front front old i d l long y
      ∙ ap (λ z. (front ++ z ∷ []) ++ drop (i + 1) old) (is ∙ ap (g (n + i + 1)) here)
      ∙ ap (λ ys. ys ++ drop (i + 1) old) (sym (numbered_more g n old i d l))

-- what no answer changes
pub map_kept : {A C : Type 0} (p : A → C) (g : ℕ → A → A) → ((k : ℕ) (x : A) → p (g k x) ≡ p x) → (n i : ℕ) (old xs : List A) → xs ≡ numbered g n (take i old) ++ drop i old → map p xs ≡ map p old
map_kept p g same n i old xs e =
    ap (map p) e
    ∙ map-append p (numbered g n (take i old)) (drop i old)
    ∙ ap (λ ys. ys ++ map p (drop i old)) (map-numbered g p p same n (take i old))
    ∙ sym (map-append p (take i old) (drop i old))
    ∙ ap (map p) (take-append-drop i old)
