-- The first names of a list.
use Rattle.std.proofs.Common.{◌≡◌, ◌⊎◌, ◌<◌, ◌+◌, ◌++◌, ℕ, zero, suc, true, false, Some, None, List, [], ◌∷◌, Contains, AllPairs, inl, inr, length, take, get_or, slice_get, sym, ap, ◌∙◌, subst, arith}
use Rattle.std.specs.Cmp.Lexicographic.{slice_cmp}
use Rattle.std.specs.Ordering.{nat_cmp, ordering_reverse}
use Rattle.std.specs.Str.{bytes_eq}
use Rattle.std.specs.declared.cmp.Ordering.{Ordering}
use Rattle.std.specs.declared.cmp.Ordering.TheVariants.{Greater, Less}
use Rattle.std.proofs.lemmas.Bool.{cases_Bool}
use Rattle.std.proofs.lemmas.Cmp.{nat_list_cmp_total}
use Rattle.std.proofs.lemmas.List.{get_or-take, length-take-le, take_all, take_more}
use Rattle.std.proofs.lemmas.List.Elements.{Contains-append_left, Contains-push, Contains-push_cases}
use Rattle.std.proofs.lemmas.Option.{get_or_from_slice_get, slice_get_past, slice_get_within}
use Rattle.std.proofs.lemmas.Slice.Eq.{bytes_eq-Decides}

pub in_none : {X : Type 0} (x : X) → Contains [] x → ⊥
in_none x (k, l, e) = absurd (omega (arith, l))

-- all elements are the first ones, and none is the next
pub take_whole : {X : Type 0} (xs : List X) → take (length xs) xs ≡ xs
take_whole xs = take_all (length xs) xs (omega arith)

pub take_past : {X : Type 0} (xs : List X) → take (length xs + 1) xs ≡ xs
take_past xs = take_all (length xs + 1) xs (omega arith)

pub none_past : {X : Type 0} (xs : List X) → slice_get xs (length xs) ≡ None
none_past xs = slice_get_past xs (length xs) (omega arith)

-- a list with one element
pub in_one : {X : Type 0} (x y : X) → Contains (x ∷ []) y → y ≡ x
in_one x y (zero, l, e) = sym e
in_one x y (suc k, l, e) = absurd (omega (arith, l))

in_rest : {X : Type 0} (x y : X) (xs : List X) → Contains xs y → Contains (x ∷ xs) y
in_rest x y xs (k, l, e) = (suc k, omega (arith, l), e)

in_first_or_rest : {X : Type 0} (x y : X) (xs : List X) → Contains (x ∷ xs) y → (x ≡ y) ⊎ Contains xs y
in_first_or_rest x y xs (zero, l, e) = inl e
in_first_or_rest x y xs (suc k, l, e) = inr (k, omega (arith, l), e)

same_or_not : (a b : List ℕ) → (a ≡ b) ⊎ (a ≡ b → ⊥)
same_or_not a b =
    elim (cases_Bool (bytes_eq a b)) [
      | inl is ↦ inl ((bytes_eq-Decides a b).0 is)
      | inr not ↦ inr (λ same. let wrong : true ≡ false = sym ((bytes_eq-Decides a b).1 same) ∙ not in absurd cc)
    ]

-- a name is one of these, or none of them
pub among_or_not : (names : List (List ℕ)) (name : List ℕ) → Contains names name ⊎ (Contains names name → ⊥)
among_or_not [] name = inr (λ among. in_none name among)
among_or_not (first ∷ names) name =
    elim (same_or_not first name) [
      | inl is ↦ inl (0, omega arith, is)
      | inr differ ↦ elim (among_or_not names name) [
        | inl among ↦ inl (in_rest first name names among)
        | inr out ↦ inr (λ among. elim (in_first_or_rest first name names among) [ inl is ↦ differ is | inr later ↦ out later ])
      ]
    ]

module _ {X : Type 0} (xs : List X) (done : ℕ) (x : X) (next : slice_get xs done ≡ Some x) where
  pub next_within : done < length xs
  next_within = slice_get_within xs done x next

  pub one_more : take (done + 1) xs ≡ take done xs ++ x ∷ []
  one_more = take_more xs done x next_within ∙ ap (λ (y : X). take done xs ++ y ∷ []) (get_or_from_slice_get xs done x x next)

  -- the next element is among one more of the first
  pub next_in : Contains (take (done + 1) xs) x
  next_in = subst (λ (ys : List X). Contains ys x) (sym one_more) (Contains-push (take done xs) x)

  pub more_in : (y : X) → Contains (take done xs) y → Contains (take (done + 1) xs) y
  more_in y among = subst (λ (ys : List X). Contains ys y) (sym one_more) (Contains-append_left (take done xs) (x ∷ []) y among)

  -- and all others of these are among the first
  pub more_cases : (y : X) → Contains (take (done + 1) xs) y → Contains (take done xs) y ⊎ (x ≡ y)
  more_cases y among = Contains-push_cases (take done xs) x y (subst (λ (ys : List X). Contains ys y) one_more among)

reversed_differs : (o : Ordering) → o ≡ ordering_reverse o → o ≡ Less → ⊥
reversed_differs o same is = let e : Less ≡ ordering_reverse Less = subst (λ (p : Ordering). p ≡ ordering_reverse p) is same in let f : Less ≡ Greater = e in absurd cc

-- the next of names in order is none of the first
pub next_is_new : (names : List (List ℕ)) (done : ℕ) (name : List ℕ) → AllPairs (λ a b. slice_cmp nat_cmp a b ≡ Less) names → slice_get names done ≡ Some name
    → Contains (take done names) name → ⊥
next_is_new names done name sorted next (k, l, e) =
    let within : done < length names = next_within names done name next in
    let long : length (take done names) ≡ done = length-take-le done names (omega (arith, within)) in
    let early : k < done = omega (arith, l, long) in
    let first : get_or names k name ≡ name = sym (get_or-take done names k name early) ∙ e in
    let second : get_or names done name ≡ name = get_or_from_slice_get names done name name next in
    let less : slice_cmp nat_cmp (get_or names k name) (get_or names done name) ≡ Less = sorted k done name early within in
    let itself : slice_cmp nat_cmp name name ≡ Less =
    subst (λ (b : List ℕ). slice_cmp nat_cmp name b ≡ Less) second (subst (λ (a : List ℕ). slice_cmp nat_cmp a (get_or names done name) ≡ Less) first less) in
    reversed_differs (slice_cmp nat_cmp name name) (nat_list_cmp_total.antisymm name name) itself
