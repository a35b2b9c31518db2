-- Rounds with entries of some clouds, where f tells what each cloud's entry is.
use Rattle.std.proofs.Common.{◌≡◌, ◌≢◌, ◌<◌, ◌≤◌, ◌+◌, ℕ, zero, suc, Option, None, Some, List, [], ◌∷◌, ◌++◌, option_to_list, map, length, get_or, All, AllPairs, Contains, refl, sym, ap, ◌∙◌, subst, arith, inl, inr}
use Rattle.std.proofs.lemmas.Bool.{cases_eq, cases_lt}
use Rattle.std.proofs.lemmas.Bool.Decides.{eqb_tells}
use Rattle.std.proofs.lemmas.List.{length-map, get_or-map, get_or_default}
use Rattle.std.proofs.lemmas.List.Elements.{All-cons, Contains-append_left, Contains-append_right}
use Rattle.nc_cloud.specs.Contents.{Contents, Write}
use Rattle.nc_cloud.specs.Images.{write_at, ImageCloud, Image, WrittenCloud, Written}
use Rattle.nc_cloud.specs.Rounds.{row, some_row}
use Rattle.nc_cloud.specs.Deciding.{AreAscending}

-- entries that are the same cloud by cloud
pub some_same : {X : Type 0} (f g : ℕ → Option X) (a k : ℕ) → ((c : ℕ) → a ≤ c → c < a + k → f c ≡ g c) → some_row f a k ≡ some_row g a k
some_same f g a zero each = refl
some_same f g a (suc k) each =
    ap (λ o. option_to_list o ++ some_row f (suc a) k) (each a (omega arith) (omega arith))
    ∙ ap (λ xs. option_to_list (g a) ++ xs) (some_same f g (suc a) k (λ c low high. each c (omega arith) (omega arith)))

-- where all clouds have an entry, it is a row
pub some_all : {X : Type 0} (g : ℕ → X) (a k : ℕ) → some_row (λ c. Some (g c)) a k ≡ row g a k
some_all g a zero = refl
some_all g a (suc k) = ap (λ xs. g a ∷ xs) (some_all g (suc a) k)

some_on : {X : Type 0} (f : ℕ → Option X) (a k : ℕ) → some_row f a (suc k) ≡ some_row f a k ++ option_to_list (f (a + k))
some_on f a zero = on_last (f a) (f (a + zero)) (ap f (omega arith))
  where
    on_last : {X : Type 0} (x y : Option X) → x ≡ y → option_to_list x ++ [] ≡ [] ++ option_to_list y
    on_last None y e = ap option_to_list e
    on_last (Some x) y e = ap option_to_list e
some_on f a (suc k) =
    let next : suc a + k ≡ a + suc k = omega arith in
    ap (λ xs. option_to_list (f a) ++ xs) (some_on f (suc a) k ∙ ap (λ n. some_row f (suc a) k ++ option_to_list (f n)) next)
    ∙ regroup (f a) (some_row f (suc a) k) (option_to_list (f (a + suc k)))
  where
    regroup : {X : Type 0} (o : Option X) (xs ys : List X) → option_to_list o ++ (xs ++ ys) ≡ (option_to_list o ++ xs) ++ ys
    regroup None xs ys = refl
    regroup (Some x) xs ys = refl

-- one cloud more
pub some_more : {X : Type 0} (f : ℕ → Option X) (k : ℕ) → some_row f 0 (k + 1) ≡ some_row f 0 k ++ option_to_list (f k)
some_more f k =
    let one : k + 1 ≡ suc k = omega arith in
    let none : 0 + k ≡ k = omega arith in
    ap (some_row f 0) one ∙ some_on f 0 k ∙ ap (λ n. some_row f 0 k ++ option_to_list (f n)) none

-- entries that p sees as others, which ascend
pub ascend_map : {A X : Type 0} (p : A → X) (cloud : X → ℕ) (n : ℕ) (xs : List A) (ys : List X) → map p xs ≡ ys → AreAscending cloud n ys → AreAscending (λ a. cloud (p a)) n xs
ascend_map {A = A} p cloud n xs ys all by =
    let long : length ys ≡ length xs = ap length (sym all) ∙ length-map xs p in
    let at : (i : ℕ) (d : A) → i < length xs → cloud (p (get_or xs i d)) ≡ cloud (get_or ys i (p d)) =
    λ i d l. ap cloud (sym (get_or-map p xs i d (p d) l) ∙ ap (λ zs. get_or zs i (p d)) all) in
    record {
      below = λ i d l. let here : i < length ys = omega (arith, long) in subst (λ c. c < n) (sym (at i d l)) (by.below i (p d) here);
      rising = λ i j d l m.
          let last : j < length ys = omega (arith, long) in
          let first : i < length xs = omega arith in
          let lower : cloud (get_or ys i (p d)) < cloud (get_or ys j (p d)) = by.rising i j (p d) l last in
          omega (arith, at i d first, at j d m, lower);
    }

-- entries of clouds from low on and below high, in ascending order
record AreBetween {X : Type 0} (cloud : X → ℕ) (low high : ℕ) (xs : List X) : Type 0 where
  pub from : All (λ x. low ≤ cloud x) xs
  pub below : All (λ x. cloud x < high) xs
  pub rising : AllPairs (λ a b. cloud a < cloud b) xs

rising_cons : {X : Type 0} (cloud : X → ℕ) (x : X) (xs : List X) → All (λ y. cloud x < cloud y) xs → AllPairs (λ a b. cloud a < cloud b) xs → AllPairs (λ a b. cloud a < cloud b) (x ∷ xs)
rising_cons cloud x xs first rest zero zero d l m = absurd (omega arith)
rising_cons cloud x xs first rest zero (suc j) d l m = first j d (omega arith)
rising_cons cloud x xs first rest (suc i) zero d l m = absurd (omega arith)
rising_cons cloud x xs first rest (suc i) (suc j) d l m = rest i j d (omega arith) (omega arith)

module _ {X : Type 0} (cloud : X → ℕ) (f : ℕ → Option X) (is : (c : ℕ) (x : X) → f c ≡ Some x → cloud x ≡ c) where
  between_step : (a k : ℕ) (o : Option X) (xs : List X) → f a ≡ o → AreBetween cloud (suc a) (suc a + k) xs → AreBetween cloud a (a + suc k) (option_to_list o ++ xs)
  between_step a k None xs e by = record {
    from = λ i d l. let low : suc a ≤ cloud (get_or xs i d) = by.from i d l in omega arith;
    below = λ i d l. let high : cloud (get_or xs i d) < suc a + k = by.below i d l in omega arith;
    rising = by.rising;
  }
  between_step a k (Some x) xs e by =
      let here : cloud x ≡ a = is a x e in
      record {
        from = All-cons (λ y. a ≤ cloud y) x xs (omega (arith, here)) (λ i d l. let low : suc a ≤ cloud (get_or xs i d) = by.from i d l in omega arith);
        below = All-cons (λ y. cloud y < a + suc k) x xs (omega (arith, here)) (λ i d l. let high : cloud (get_or xs i d) < suc a + k = by.below i d l in omega arith);
        rising = rising_cons cloud x xs (λ i d l. let low : suc a ≤ cloud (get_or xs i d) = by.from i d l in omega (arith, here)) by.rising;
      }

  between : (a k : ℕ) → AreBetween cloud a (a + k) (some_row f a k)
  between a zero = record { from = λ i d l. absurd (omega arith); below = λ i d l. absurd (omega arith); rising = λ i j d l m. absurd (omega arith) }
  between a (suc k) = between_step a k (f a) (some_row f (suc a) k) refl (between (suc a) k)

  are_step : (a : ℕ) (o : Option X) (xs : List X) → f a ≡ o → All (λ x. f (cloud x) ≡ Some x) xs → All (λ x. f (cloud x) ≡ Some x) (option_to_list o ++ xs)
  are_step a None xs e rest = rest
  are_step a (Some x) xs e rest = All-cons (λ y. f (cloud y) ≡ Some y) x xs (ap f (is a x e) ∙ e) rest

  -- each is the entry of its cloud
  some_are : (a k : ℕ) → All (λ x. f (cloud x) ≡ Some x) (some_row f a k)
  some_are a zero = λ i d l. absurd (omega arith)
  some_are a (suc k) = are_step a (f a) (some_row f (suc a) k) refl (some_are (suc a) k)

  -- and each cloud's entry is there
  some_has : (a k c : ℕ) (x : X) → a ≤ c → c < a + k → f c ≡ Some x → Contains (some_row f a k) x
  some_has a zero c x low high e = absurd (omega arith)
  some_has a (suc k) c x low high e =
      elim (cases_eq a c) [
        | inl same ↦
            subst (λ (o : Option X). Contains (option_to_list o ++ some_row f (suc a) k) x) (sym (ap f same ∙ e)) (Contains-append_left (x ∷ []) (some_row f (suc a) k) x (0, omega arith, refl))
        | inr differs ↦ Contains-append_right (option_to_list (f a)) (some_row f (suc a) k) x (some_has (suc a) k c x (omega arith) (omega arith) e)
      ]

  -- they ascend
  pub some_ascend : (n : ℕ) → AreAscending cloud n (some_row f 0 n)
  some_ascend n =
      let by = between 0 n in
      record { below = λ i d l. let high : cloud (get_or (some_row f 0 n) i d) < 0 + n = by.below i d l in omega arith; rising = by.rising }

  -- and entries that p sees as they are do too
  pub ascend_some : {A : Type 0} (p : A → X) (n : ℕ) (xs : List A) → map p xs ≡ some_row f 0 n → AreAscending (λ a. cloud (p a)) n xs
  ascend_some p n xs all = ascend_map p cloud n xs (some_row f 0 n) all (some_ascend n)

-- entries that p sees as those of some clouds
module _ {X : Type 0} (cloud : X → ℕ) (f : ℕ → Option X) (is : (c : ℕ) (x : X) → f c ≡ Some x → cloud x ≡ c) {A : Type 0} (p : A → X) (n : ℕ) (xs : List A) (all : map p xs ≡ some_row f 0 n) where
  seen_as : (i : ℕ) (d e : A) → i < length xs → p (get_or xs i d) ≡ get_or (some_row f 0 n) i (p e)
  seen_as i d e l = ap p (get_or_default xs i d e l) ∙ sym (get_or-map p xs i e (p e) l) ∙ ap (λ ys. get_or ys i (p e)) all

  same_length : length (some_row f 0 n) ≡ length xs
  same_length = ap length (sym all) ∙ length-map xs p

  -- each is the entry of its cloud
  pub entry_is : All (λ a. f (cloud (p a)) ≡ Some (p a)) xs
  entry_is i d l = subst (λ (x : X). f (cloud x) ≡ Some x) (sym (seen_as i d d l)) (some_are cloud f is 0 n i (p d) (omega (arith, same_length)))

  -- and each cloud's entry is there
  pub has_entry : (c : ℕ) (x : X) → c < n → f c ≡ Some x → (i : ℕ) × (i < length xs) × ((d : A) → p (get_or xs i d) ≡ x)
  has_entry c x l e =
      let there = some_has cloud f is 0 n c x (omega arith) (omega arith) e in
      let within : there.0 < length xs = let low : there.0 < length (some_row f 0 n) = there.1 in omega (arith, same_length) in
      (there.0, within, λ d. seen_as there.0 d d within ∙ get_or_default (some_row f 0 n) there.0 (p d) x there.1 ∙ there.2)

-- writes of some clouds
module _ (f : ℕ → Option Write) (is : (c : ℕ) (p : Write) → f c ≡ Some p → p.cloud ≡ c) where
  out_step : (a c : ℕ) (o : Option Write) (ps : List Write) → f a ≡ o → a ≢ c → write_at (option_to_list o ++ ps) c ≡ write_at ps c
  out_step a c None ps e differs = refl
  out_step a c (Some p) ps e differs =
      elim (eqb_tells p.cloud c) [
        | inl same ↦ absurd (differs (sym (is a p e) ∙ same.1))
        | inr other ↦ rw other.0 refl
      ]

  in_step : (c : ℕ) (o : Option Write) (ps : List Write) → f c ≡ o → write_at ps c ≡ None → write_at (option_to_list o ++ ps) c ≡ o
  in_step c None ps e none = none
  in_step c (Some p) ps e none =
      elim (eqb_tells p.cloud c) [
        | inl same ↦ rw same.0 refl
        | inr other ↦ absurd (other.1 (is c p e))
      ]

  some_below : (a k c : ℕ) → c < a → write_at (some_row f a k) c ≡ None
  some_below a zero c l = refl
  some_below a (suc k) c l = out_step a c (f a) (some_row f (suc a) k) refl (λ e. absurd (omega arith)) ∙ some_below (suc a) k c (omega arith)

  -- a cloud past the last has no entry
  pub some_out : (a k c : ℕ) → a + k ≤ c → write_at (some_row f a k) c ≡ None
  some_out a zero c l = refl
  some_out a (suc k) c l = out_step a c (f a) (some_row f (suc a) k) refl (λ e. absurd (omega arith)) ∙ some_out (suc a) k c (omega arith)

  -- the entry of a cloud
  pub some_in : (a k c : ℕ) → a ≤ c → c < a + k → write_at (some_row f a k) c ≡ f c
  some_in a zero c low high = absurd (omega arith)
  some_in a (suc k) c low high =
      elim (cases_eq a c) [
        | inl same ↦ subst (λ (d : ℕ). write_at (some_row f a (suc k)) d ≡ f d) same (in_step a (f a) (some_row f (suc a) k) refl (some_below (suc a) k a (omega arith)))
        | inr differs ↦ out_step a c (f a) (some_row f (suc a) k) refl differs ∙ some_in (suc a) k c (omega arith) (omega arith)
      ]

  -- what holds of each cloud's entry holds of all
  pub some_each : (P : Write → Type 0) (n : ℕ) → ((c : ℕ) (p : Write) → c < n → f c ≡ Some p → P p) → (c : ℕ) (p : Write) → write_at (some_row f 0 n) c ≡ Some p → P p
  some_each P n each c p found =
      elim (cases_lt c n) [
        | inl l ↦ each c p l (sym (some_in 0 n c (omega arith) (omega arith)) ∙ found)
        | inr out ↦ let none : None ≡ Some p = sym (some_out 0 n c (omega arith)) ∙ found in absurd cc
      ]

  module _ (n : ℕ) (ps : List Write) (all : ps ≡ some_row f 0 n) (F G : Contents) where
    at : (c : ℕ) → c < n → write_at ps c ≡ f c
    at c l = ap (λ xs. write_at xs c) all ∙ some_in 0 n c (omega arith) (omega arith)

    past : (c : ℕ) → n ≤ c → write_at ps c ≡ None
    past c l = ap (λ xs. write_at xs c) all ∙ some_out 0 n c (omega arith)

    pub some_image_in : Image ps F G → (c : ℕ) → c < n → ImageCloud (f c) (F c) (G c)
    some_image_in image c l = subst (λ (p : Option Write). ImageCloud p (F c) (G c)) (at c l) (image.each c)

    pub some_image_out : Image ps F G → (c : ℕ) → n ≤ c → G c ≡ F c
    some_image_out image c l = subst (λ (p : Option Write). ImageCloud p (F c) (G c)) (past c l) (image.each c)

    pub some_written_in : Written ps F G → (c : ℕ) → c < n → WrittenCloud (f c) (F c) (G c)
    some_written_in written c l = subst (λ (p : Option Write). WrittenCloud p (F c) (G c)) (at c l) (written.each c)

    pub some_written_out : Written ps F G → (c : ℕ) → n ≤ c → G c ≡ F c
    some_written_out written c l = subst (λ (p : Option Write). WrittenCloud p (F c) (G c)) (past c l) (written.each c)
