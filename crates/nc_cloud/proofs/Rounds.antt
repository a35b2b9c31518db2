-- What follows for a round with one entry for each cloud.
use Rattle.std.proofs.Common.{◌≡◌, ◌≢◌, ℕ, zero, suc, ◌+◌, ◌<◌, ◌≤◌, Bool, true, false, Option, List, [], ◌∷◌, ◌++◌, map, length, get_or, refl, sym, ap, ◌∙◌, subst, arith, All, AllPairs}
use Rattle.std.proofs.lemmas.List.{length-map, get_or-map}
use Rattle.nc_name.specs.declared.key.Key.{Key}
use Rattle.nc_cloud.specs.declared.fleet.Ask.{Ask}
use Rattle.nc_cloud.specs.Contents.Fate.{became}
use Rattle.nc_cloud.specs.Contents.{Contents, Fate, Settles}
use Rattle.nc_cloud.specs.Fleet.{asked, Answers, Shows}
use Rattle.nc_cloud.specs.Rounds.{row}

pub length-row : {X : Type 0} (f : ℕ → X) (a k : ℕ) → length (row f a k) ≡ k
length-row f a zero = refl
length-row f a (suc k) = ap suc (length-row f (suc a) k)

-- what stands at a write of a row
pub get_or-row : {X : Type 0} (f : ℕ → X) (a k i : ℕ) (d : X) → i < k → get_or (row f a k) i d ≡ f (a + i)
get_or-row f a zero i d l = absurd (omega arith)
get_or-row f a (suc k) zero d l = ap f (omega arith)
get_or-row f a (suc k) (suc i) d l = get_or-row f (suc a) k i d (omega arith) ∙ ap f (omega arith)

row_on : {X : Type 0} (f : ℕ → X) (a k : ℕ) → row f a (suc k) ≡ row f a k ++ f (a + k) ∷ []
row_on f a zero = ap (λ n. f n ∷ []) (omega arith)
row_on f a (suc k) = ap (λ xs. f a ∷ xs) (row_on f (suc a) k ∙ ap (λ n. row f (suc a) k ++ f n ∷ []) (omega arith))

-- one entry more
pub row_more : {X : Type 0} (f : ℕ → X) (k : ℕ) → row f 0 (k + 1) ≡ row f 0 k ++ f k ∷ []
row_more f k =
    let one : k + 1 ≡ suc k = omega arith in
    let none : 0 + k ≡ k = omega arith in
    ap (row f 0) one ∙ row_on f 0 k ∙ ap (λ n. row f 0 k ++ f n ∷ []) none

-- entries of any kind, seen by p, that are a row
module _ {A X : Type 0} (p : A → X) (f : ℕ → X) (n : ℕ) (xs : List A) (all : map p xs ≡ row f 0 n) where
  -- there is one for each cloud
  pub row_length : length xs ≡ n
  row_length = sym (length-map xs p) ∙ ap length all ∙ length-row f 0 n

  -- the entry of a cloud
  pub row_at : (c : ℕ) → c < n → (d : A) → p (get_or xs c d) ≡ f c
  row_at c l d =
      let within : c < length xs = omega (arith, row_length) in
      sym (get_or-map p xs c d (p d) within) ∙ ap (λ ys. get_or ys c (p d)) all ∙ get_or-row f 0 n c (p d) l ∙ ap f (omega arith)

  module _ (cloud : X → ℕ) (is : (c : ℕ) → cloud (f c) ≡ c) where
    pub row_cloud : (c : ℕ) → c < n → (d : A) → cloud (p (get_or xs c d)) ≡ c
    row_cloud c l d = ap cloud (row_at c l d) ∙ is c

    -- no cloud has two
    pub row_once : AllPairs (λ x y. cloud (p x) ≢ cloud (p y)) xs
    row_once i j d l m same =
        let j' : j < n = omega (arith, row_length) in
        let i' : i < n = omega arith in
        let e : i ≡ j = sym (row_cloud i i' d) ∙ same ∙ row_cloud j j' d in
        absurd (omega arith)

    pub row_below : (width : ℕ) → n ≤ width → All (λ x. cloud (p x) < width) xs
    row_below width l k d m =
        let k' : k < n = omega (arith, row_length) in
        let e : cloud (p (get_or xs k d)) ≡ k = row_cloud k k' d in
        omega arith

-- an entry of a round that was answered Ok is new, any other is old, new, gone or torn
pub settled_fate : (ok : Bool) (new old left : Option (List ℕ)) → Settles ok new old left → Fate old new left
settled_fate true new old left is = became is
settled_fate false new old left is = is

-- a round of gets with one for each cloud
module _ (f : ℕ → ℕ × Key × ℕ) (is : (c : ℕ) → (f c).0 ≡ c) (n : ℕ) (asks : List Ask) (all : map asked asks ≡ row f 0 n) where
  pub asks_length : length asks ≡ n
  asks_length = row_length asked f n asks all

  -- the ask of a cloud
  pub ask_at : (c : ℕ) → c < n → (d : Ask) → asked (get_or asks c d) ≡ f c
  ask_at c l d = row_at asked f n asks all c l d

  pub ask_cloud : (c : ℕ) → c < n → (d : Ask) → (get_or asks c d).cloud ≡ c
  ask_cloud = row_cloud asked f n asks all (λ p. p.0) is

  pub asks_once : AllPairs (λ a b. a.cloud ≢ b.cloud) asks
  asks_once = row_once asked f n asks all (λ p. p.0) is

  pub asks_below : (width : ℕ) → n ≤ width → All (λ a. a.cloud < width) asks
  asks_below = row_below asked f n asks all (λ p. p.0) is

  -- what the answer of a cloud shows
  pub answer_at : (F : Contents) → All (λ a. Answers a (F a.cloud a.key)) asks → (c : ℕ) → c < n → (d : Ask) → Shows (get_or asks c d).answer (f c).2 (F c (f c).1)
  answer_at F told c l d =
      let within : c < length asks = omega (arith, asks_length) in
      let Of : ℕ × Key × ℕ → Type 0 = λ p. Shows (get_or asks c d).answer p.2 (F p.0 p.1) in
      let at : Of (f c) = subst Of (ask_at c l d) (told c d within) in
      subst (λ (k : ℕ). Shows (get_or asks c d).answer (f c).2 (F k (f c).1)) (is c) at
