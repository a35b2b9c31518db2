-- Lists of what some clouds have.
use Rattle.std.proofs.Common.{◌≡◌, ◌<◌, ◌≤◌, ◌+◌, ◌-◌, ◌++◌, ◌∷◌, ℕ, zero, suc, Option, None, Some, List, [], option_to_list, map, length, All, refl, sym, ap, ◌∙◌, arith}
use Rattle.std.specs.Option.{option_map}
use Rattle.std.proofs.lemmas.List.Elements.{All-cons}
use Rattle.nc_cloud.specs.Rounds.{some_row}

all_step : {X : Type 0} (Q : X → Type 0) (o : Option X) (xs : List X) → ((x : X) → o ≡ Some x → Q x) → All Q xs → All Q (option_to_list o ++ xs)
all_step Q None xs here rest = rest
all_step Q (Some x) xs here rest = All-cons Q x xs (here x refl) rest

-- what holds of what each cloud has holds of all
pub some_all_of : {X : Type 0} (Q : X → Type 0) (f : ℕ → Option X) (a k : ℕ) → ((c : ℕ) (x : X) → a ≤ c → c < a + k → f c ≡ Some x → Q x) → All Q (some_row f a k)
some_all_of Q f a zero each = λ i d l. absurd (omega arith)
some_all_of Q f a (suc k) each = all_step Q (f a) (some_row f (suc a) k) (λ x is. each a x (omega arith) (omega arith) is) (some_all_of Q f (suc a) k (λ c x low high. each c x (omega (arith, low)) (omega (arith, high))))

map_step : {X Y : Type 0} (h : X → Y) (o : Option X) (xs : List X) → map h (option_to_list o ++ xs) ≡ option_to_list (option_map h o) ++ map h xs
map_step h None xs = refl
map_step h (Some x) xs = refl

pub map_some : {X Y : Type 0} (h : X → Y) (f : ℕ → Option X) (a k : ℕ) → map h (some_row f a k) ≡ some_row (λ c. option_map h (f c)) a k
map_some h f a zero = refl
map_some h f a (suc k) = map_step h (f a) (some_row f (suc a) k) ∙ ap (λ ys. option_to_list (option_map h (f a)) ++ ys) (map_some h f (suc a) k)

none_step : {X : Type 0} (o : Option X) (xs : List X) → o ≡ None → option_to_list o ++ xs ≡ xs
none_step None xs e = refl
none_step (Some x) xs e = absurd cc

pub some_none : {X : Type 0} (f : ℕ → Option X) (a k : ℕ) → ((c : ℕ) → a ≤ c → c < a + k → f c ≡ None) → some_row f a k ≡ []
some_none f a zero none = refl
some_none f a (suc k) none = none_step (f a) (some_row f (suc a) k) (none a (omega arith) (omega arith)) ∙ some_none f (suc a) k (λ c low high. none c (omega (arith, low)) (omega (arith, high)))

regroup : {X : Type 0} (o : Option X) (xs ys : List X) → option_to_list o ++ (xs ++ ys) ≡ (option_to_list o ++ xs) ++ ys
regroup None xs ys = refl
regroup (Some x) xs ys = refl

pub some_split : {X : Type 0} (f : ℕ → Option X) (a k l : ℕ) → some_row f a (k + l) ≡ some_row f a k ++ some_row f (a + k) l
some_split f a zero l = let here : a + zero ≡ a = omega arith in let none : zero + l ≡ l = omega arith in ap (some_row f a) none ∙ ap (λ b. some_row f b l) (sym here)
some_split f a (suc k) l =
    let more : suc k + l ≡ suc (k + l) = omega arith in
    let there : suc a + k ≡ a + suc k = omega arith in
    ap (some_row f a) more
    ∙ ap (λ ys. option_to_list (f a) ++ ys) (some_split f (suc a) k l ∙ ap (λ b. some_row f (suc a) k ++ some_row f b l) there)
    ∙ regroup (f a) (some_row f (suc a) k) (some_row f (a + suc k) l)

-- from a to b, and then from b to c
pub some_join : {X : Type 0} (f : ℕ → Option X) (a b c : ℕ) → a ≤ b → b ≤ c → some_row f a (c - a) ≡ some_row f a (b - a) ++ some_row f b (c - b)
some_join f a b c low high =
    let whole : c - a ≡ (b - a) + (c - b) = omega (arith, low, high) in
    let there : a + (b - a) ≡ b = omega (arith, low) in
    ap (some_row f a) whole ∙ some_split f a (b - a) (c - b) ∙ ap (λ k. some_row f a (b - a) ++ some_row f k (c - b)) there

nil_right : {X : Type 0} (xs : List X) → xs ++ [] ≡ xs
nil_right [] = refl
nil_right (x ∷ xs) = ap (λ ys. x ∷ ys) (nil_right xs)

-- only clouds from a on and below b have something
pub some_within : {X : Type 0} (f : ℕ → Option X) (a b n : ℕ) → a ≤ b → b ≤ n → ((c : ℕ) → c < a → f c ≡ None) → ((c : ℕ) → b ≤ c → c < n → f c ≡ None) → some_row f 0 n ≡ some_row f a (b - a)
some_within f a b n low high before after =
    let whole : n ≡ n - 0 = omega arith in
    let first : a - 0 ≡ a = omega arith in
    ap (some_row f 0) whole
    ∙ some_join f 0 a n (omega arith) (omega (arith, low, high))
    ∙ ap (λ xs. xs ++ some_row f a (n - a)) (ap (some_row f 0) first ∙ some_none f 0 a (λ c l m. before c (omega (arith, m))))
    ∙ some_join f a b n low high
    ∙ ap (λ xs. some_row f a (b - a) ++ xs) (some_none f b (n - b) (λ c l m. after c l (omega (arith, m, high))))
    ∙ nil_right (some_row f a (b - a))

-- where g has nothing that f hasn't, it has no more
fewer_step : {X : Type 0} (o p : Option X) (xs ys : List X) → (o ≡ None → p ≡ None) → length ys ≤ length xs → length (option_to_list p ++ ys) ≤ length (option_to_list o ++ xs)
fewer_step None None xs ys has l = l
fewer_step None (Some y) xs ys has l = let e : Some y ≡ None = has refl in absurd cc
fewer_step (Some x) None xs ys has l = omega (arith, l)
fewer_step (Some x) (Some y) xs ys has l = omega (arith, l)

pub some_fewer : {X : Type 0} (f g : ℕ → Option X) (a k : ℕ) → ((c : ℕ) → a ≤ c → c < a + k → f c ≡ None → g c ≡ None) → length (some_row g a k) ≤ length (some_row f a k)
some_fewer f g a zero has = omega arith
some_fewer f g a (suc k) has =
    fewer_step (f a) (g a) (some_row f (suc a) k) (some_row g (suc a) k) (has a (omega arith) (omega arith))
    (some_fewer f g (suc a) k (λ c low high. has c (omega (arith, low)) (omega (arith, high))))
