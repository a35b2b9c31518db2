-- A loop that answers the entries of a round in place.
use Rattle.std.proofs.Common.{◌≡◌, ℕ, suc, ◌+◌, ◌<◌, List, [], ◌∷◌, ◌++◌, map, length, get_or, take, drop, sym, ap, ◌∙◌, arith, append_assoc, drop-cons}
use Rattle.std.proofs.Math.ListN.{set}
use Rattle.std.proofs.Math.Seq.{set-append_seam, get_or-append_seam}
use Rattle.std.proofs.lemmas.List.{length-map, length-take-le, map_more}

-- the entries before i stand in front, the others as they were
module _ {A : Type 0} (front old : List A) (i : ℕ) (d : A) (l : i < length old) (is : length front ≡ i) where
  split : drop i old ≡ get_or old i d ∷ drop (i + 1) old
  split = let next : suc i ≡ i + 1 = omega arith in drop-cons old i d l ∙ ap (λ k. get_or old i d ∷ drop k old) next

  pub get_front : get_or (front ++ drop i old) i d ≡ get_or old i d
  get_front = ap (λ ys. get_or (front ++ ys) i d) split ∙ ap (λ k. get_or (front ++ get_or old i d ∷ drop (i + 1) old) k d) (sym is) ∙ get_or-append_seam front (get_or old i d) (drop (i + 1) old) d

  pub set_front : (y : A) → set (front ++ drop i old) i y ≡ (front ++ y ∷ []) ++ drop (i + 1) old
  set_front y =
      ap (λ ys. set (front ++ ys) i y) split
      ∙ ap (λ k. set (front ++ get_or old i d ∷ drop (i + 1) old) k y) (sym is)
      ∙ set-append_seam front (get_or old i d) (drop (i + 1) old) y
      ∙ sym (append_assoc front (y ∷ []) (drop (i + 1) old))

module _ {A : Type 0} (old xs : List A) (i : ℕ) (d y : A) (l : i < length old) where
  pub shorter : length (take i old) ≡ i
  shorter = length-take-le i old (omega arith)

  -- each in the same way
  pub map_set : (f : A → A) → xs ≡ map f (take i old) ++ drop i old → y ≡ f (get_or xs i d) → set xs i y ≡ map f (take (i + 1) old) ++ drop (i + 1) old
  map_set f e is =
      let front : List A = map f (take i old) in
      let long : length front ≡ i = length-map (take i old) f ∙ shorter in
      let here : get_or xs i d ≡ get_or old i d = ap (λ ys. get_or ys i d) e ∙ get_front front old i d l long in
      ap (λ ys. set ys i y) e ∙ set_front front old i d l long y
      ∙ ap (λ z. (front ++ z ∷ []) ++ drop (i + 1) old) (is ∙ ap f here)
      ∙ ap (λ ys. ys ++ drop (i + 1) old) (sym (map_more f old i d l))
