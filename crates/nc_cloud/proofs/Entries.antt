-- The entry of a cloud, in a round of entries of any kind.
use Rattle.std.proofs.Common.{◌≡◌, ◌≢◌, ℕ, zero, suc, ◌+◌, ◌<◌, Bool, true, false, ◌&&◌, cond, if◌then◌else◌, Option, None, Some, List, [], ◌∷◌, map, length, get_or, refl, sym, ap, ap₂, ◌∙◌, arith, All, AllPairs, nat_eq, eq-eqb, inl, inr}
use Rattle.std.specs.List.{find}
use Rattle.std.specs.Option.{option_map}
use Rattle.std.proofs.lemmas.Bool.Decides.{eqb_tells}
use Rattle.nc_cloud.specs.Contents.{Touch, touch_at}
use Rattle.nc_cloud.specs.Fleet.{tally}

-- where a list has an element, there is one
pub some_of : {A : Type 0} (xs : List A) → 0 < length xs → A
some_of [] l = absurd (omega arith)
some_of (x ∷ xs) l = x

differs : (a b : ℕ) → a ≢ b → nat_eq a b ≡ false
differs a b ne = elim (eqb_tells a b) [ inl same ↦ absurd (ne same.1) | inr other ↦ other.0 ]

-- what no element passes
pub tally_none : {X : Type 0} (p : X → Bool) (xs : List X) → All (λ x. p x ≡ false) xs → tally p xs ≡ 0
tally_none p [] none = refl
tally_none p (x ∷ xs) none = ap₂ (λ b n. (if b then 1 else 0) + n) (none 0 x (omega arith)) (tally_none p xs (λ k d l. none (suc k) d (omega arith)))

-- where the entry of a cloud stands
pub record Stands {X : Type 0} (cloud : X → ℕ) (xs : List X) (c : ℕ) (x : X) : Type 0 where
  pub i : ℕ
  pub within : i < length xs
  pub is : (d : X) → get_or xs i d ≡ x
  pub of_cloud : cloud x ≡ c

module _ {X : Type 0} (cloud : X → ℕ) (c : ℕ) where
  abbrev pub entry : List X → Option X
  entry xs = find (λ x. nat_eq (cloud x) c) xs

  pub entry_back : (xs : List X) (x : X) → entry xs ≡ Some x → Stands cloud xs c x
  entry_back [] x e = cc
  entry_back (y ∷ xs) x e =
      elim (eqb_tells (cloud y) c) [
        | inl same ↦
            let first : Some y ≡ Some x = sym (ap (λ b. cond b (Some y) (find (λ x. nat_eq (cloud x) c) xs)) same.0) ∙ e in
            let it : y ≡ x = cc in
            record { i = 0; within = omega arith; is = λ d. it; of_cloud = ap cloud (sym it) ∙ same.1 }
        | inr other ↦
            let later : find (λ x. nat_eq (cloud x) c) xs ≡ Some x = sym (ap (λ b. cond b (Some y) (find (λ x. nat_eq (cloud x) c) xs)) other.0) ∙ e in
            let rest : Stands cloud xs c x = entry_back xs x later in
            record { i = suc rest.i; within = let l : rest.i < length xs = rest.within in omega (arith, l); is = rest.is; of_cloud = rest.of_cloud }
      ]

  pub entry_in : (xs : List X) → AllPairs (λ x y. cloud x ≢ cloud y) xs → (i : ℕ) (d : X) → i < length xs → cloud (get_or xs i d) ≡ c → entry xs ≡ Some (get_or xs i d)
  entry_in [] once i d l is = absurd (omega arith)
  entry_in (y ∷ xs) once zero d l is = rw (eq-eqb (cloud y) c is) refl
  entry_in (y ∷ xs) once (suc i) d l is =
      let rest : entry xs ≡ Some (get_or xs i d) = entry_in xs (λ j k e m o. once (suc j) (suc k) e (omega arith) (omega arith)) i d (omega arith) is in
      elim (eqb_tells (cloud y) c) [
        | inl same ↦ absurd (once 0 (suc i) d (omega arith) l (same.1 ∙ sym is))
        | inr other ↦ rw other.0 rest
      ]

  found_contradicts : (xs : List X) (k : ℕ) (d : X) → k < length xs → cloud (get_or xs k d) ≡ c → entry xs ≡ None → ⊥
  found_contradicts [] k d l is e = absurd (omega arith)
  found_contradicts (y ∷ xs) zero d l is e =
      let found : entry (y ∷ xs) ≡ Some y = rw (eq-eqb (cloud y) c is) refl in cc
  found_contradicts (y ∷ xs) (suc k) d l is e =
      elim (eqb_tells (cloud y) c) [
        | inl same ↦ let found : entry (y ∷ xs) ≡ Some y = rw same.0 refl in cc
        | inr other ↦
            let skipped : entry (y ∷ xs) ≡ entry xs = rw other.0 refl in
            found_contradicts xs k d (omega arith) is (sym skipped ∙ e)
      ]

  pub none_entry : (xs : List X) → entry xs ≡ None → All (λ x. cloud x ≢ c) xs
  none_entry xs e k d l is = found_contradicts xs k d l is e

  pub tally_absent : (q : X → Bool) (xs : List X) → All (λ x. cloud x ≢ c) xs → tally (λ y. nat_eq (cloud y) c && q y) xs ≡ 0
  tally_absent q xs none = tally_none (λ y. nat_eq (cloud y) c && q y) xs (λ k d l. ap (λ a. a && q (get_or xs k d)) (differs (cloud (get_or xs k d)) c (none k d l)))

  -- how many entries of a cloud pass a test
  pub tally_some : (q : X → Bool) (xs : List X) → AllPairs (λ x y. cloud x ≢ cloud y) xs → (x : X) → entry xs ≡ Some x → tally (λ y. nat_eq (cloud y) c && q y) xs ≡ (if q x then 1 else 0)
  tally_some q [] once x e = cc
  tally_some q (y ∷ xs) once x e =
      elim (eqb_tells (cloud y) c) [
        | inl same ↦
            let first : entry (y ∷ xs) ≡ Some y = rw same.0 refl in
            let it : y ≡ x = cc in
            let rest : tally (λ z. nat_eq (cloud z) c && q z) xs ≡ 0 = tally_absent q xs (λ k d l is. once 0 (suc k) d (omega arith) (omega arith) (same.1 ∙ sym is)) in
            let here : (nat_eq (cloud y) c && q y) ≡ q x = ap₂ (λ a b. a && b) same.0 (ap q it) in
            ap₂ (λ b n. (if b then 1 else 0) + n) here rest ∙ omega arith
        | inr other ↦
            let skipped : entry (y ∷ xs) ≡ entry xs = rw other.0 refl in
            let rest : tally (λ z. nat_eq (cloud z) c && q z) xs ≡ (if q x then 1 else 0) = tally_some q xs (λ j k d m o. once (suc j) (suc k) d (omega arith) (omega arith)) x (sym skipped ∙ e) in
            let here : (nat_eq (cloud y) c && q y) ≡ false = ap (λ a. a && q y) other.0 in
            ap₂ (λ b n. (if b then 1 else 0) + n) here rest ∙ omega arith
      ]

-- the entry of a cloud, seen by p
found_map : {A X : Type 0} (p : A → X) (here : Bool) (a : A) (o : Option X) (u : Option A) → o ≡ option_map p u → cond here (Some (p a)) o ≡ option_map p (cond here (Some a) u)
found_map p true a o u later = refl
found_map p false a o u later = later

pub entry-map : {A X : Type 0} (p : A → X) (cloud : X → ℕ) (c : ℕ) (xs : List A) → entry cloud c (map p xs) ≡ option_map p (entry (λ a. cloud (p a)) c xs)
entry-map p cloud c [] = refl
entry-map p cloud c (a ∷ xs) = found_map p (nat_eq (cloud (p a)) c) a _ _ (entry-map p cloud c xs)

pub touch_is : (ts : List Touch) (c : ℕ) → touch_at ts c ≡ entry (λ t. t.write.cloud) c ts
touch_is [] c = refl
touch_is (t ∷ ts) c = ap (λ o. if nat_eq t.write.cloud c then Some t else o) (touch_is ts c)
