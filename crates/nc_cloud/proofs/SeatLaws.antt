-- Entries by their clouds, and clouds in seats.
use Rattle.std.proofs.Common.{◌≡◌, ◌≢◌, ℕ, zero, suc, ◌+◌, ◌<◌, Bool, true, false, cond, Option, Some, List, [], ◌∷◌, ◌++◌, map, length, get_or, take, drop, refl, sym, ap, ◌∙◌, subst, arith, All, AllPairs}
use Rattle.std.specs.List.{find}
use Rattle.std.proofs.Math.ListN.{set}
use Rattle.std.proofs.lemmas.List.{length-map, length-take-le, get_or_default, get_or-take}
use Rattle.std.proofs.lemmas.List.Elements.{All-set}
use Rattle.nc_cloud.specs.declared.fleet.Ask.{Ask}
use Rattle.nc_cloud.specs.declared.fleet.Answer.{Answer}
use Rattle.nc_cloud.specs.declared.fleet.Answer.TheVariants.{Waiting}
use Rattle.nc_cloud.specs.declared.seats.Seat.{Seat}
use Rattle.nc_cloud.specs.Seats.{clouds_in, collected_ask}
use Rattle.nc_cloud.proofs.Served.{get_front, map_set}

found_in : {X : Type 0} (P : X → Type 0) (b : Bool) (y x : X) (later : Option X) → P y → (later ≡ Some x → P x) → cond b (Some y) later ≡ Some x → P x
found_in P true y x later here there e = subst P (cc) here
found_in P false y x later here there e = there e

-- what is found has what all have
pub find_all : {X : Type 0} (P : X → Type 0) (test : X → Bool) (xs : List X) (x : X) → All P xs → find test xs ≡ Some x → P x
find_all P test [] x all e = cc
find_all P test (y ∷ xs) x all e = found_in P (test y) y x (find test xs) (all 0 y (omega arith)) (λ f. find_all P test xs x (λ k d l. all (suc k) d (omega arith)) f) e

pub map_set_other : {X Y : Type 0} (f : X → Y) (xs : List X) (i : ℕ) (y : X) (c : ℕ) (d : Y) → c ≢ i → get_or (map f (set xs i y)) c d ≡ get_or (map f xs) c d
map_set_other f [] i y c d other = refl
map_set_other f (x ∷ xs) zero y zero d other = absurd (other refl)
map_set_other f (x ∷ xs) zero y (suc c) d other = refl
map_set_other f (x ∷ xs) (suc i) y zero d other = refl
map_set_other f (x ∷ xs) (suc i) y (suc c) d other = map_set_other f xs i y c d (λ e. other (ap suc e))

-- the asks before the i-th have their answers
pub record Collecting {C : Type 0} (seats now : List (Seat C)) (asks left : List Ask) (i : ℕ) : Type 0 where
  pub answers : left ≡ map (collected_ask seats) (take i asks) ++ drop i asks
  pub clouds : clouds_in now ≡ clouds_in seats
  pub below : All (λ a. a.cloud < length seats) left
  pub waiting : (c : ℕ) → All (λ a. a.cloud ≢ c) (take i asks) → get_or (map (λ s. s.answer) now) c Waiting ≡ get_or (map (λ s. s.answer) seats) c Waiting

module _ {C : Type 0} (seats now then : List (Seat C)) (asks left : List Ask) (i : ℕ) (d : Ask) (l : i < length asks) (m : i < length left) (once : AllPairs (λ a b. a.cloud ≢ b.cloud) asks) (so_far : Collecting seats now asks left i) where
  here : get_or left i d ≡ get_or asks i d
  here = ap (λ xs. get_or xs i d) so_far.answers ∙ get_front (map (collected_ask seats) (take i asks)) asks i d l (length-map (take i asks) (collected_ask seats) ∙ length-take-le i asks (omega arith))

  apart : All (λ a. a.cloud ≢ (get_or left i d).cloud) (take i asks)
  apart k e m same =
      let k' : k < i = omega (arith, length-take-le i asks (omega arith)) in
      once k i e k' l (sym (ap (λ (a : Ask). a.cloud) (get_or-take i asks k e k')) ∙ same ∙ ap (λ (a : Ask). a.cloud) (here ∙ get_or_default asks i d e l))

  earlier : (c : ℕ) → All (λ a. a.cloud ≢ c) (take (i + 1) asks) → All (λ a. a.cloud ≢ c) (take i asks)
  earlier c none k e m =
      let k' : k < i = omega (arith, length-take-le i asks (omega arith)) in
      let within : k < length (take (i + 1) asks) = omega (arith, length-take-le (i + 1) asks (omega arith)) in
      let same : get_or (take (i + 1) asks) k e ≡ get_or (take i asks) k e = get_or-take (i + 1) asks k e (omega arith) ∙ sym (get_or-take i asks k e k') in
      subst (λ (a : Ask). a.cloud ≢ c) same (none k e within)

  not_here : (c : ℕ) → All (λ a. a.cloud ≢ c) (take (i + 1) asks) → c ≢ (get_or left i d).cloud
  not_here c none same =
      let within : i < length (take (i + 1) asks) = omega (arith, length-take-le (i + 1) asks (omega arith)) in
      none i d within (ap (λ (a : Ask). a.cloud) (get_or-take (i + 1) asks i d (omega arith) ∙ sym here) ∙ sym same)

  pub collecting_more : (answer : Answer) (cloud : ℕ) → cloud ≡ (get_or left i d).cloud → answer ≡ get_or (map (λ s. s.answer) now) cloud Waiting → clouds_in then ≡ clouds_in now → ((c : ℕ) → c ≢ cloud → get_or (map (λ s. s.answer) then) c Waiting ≡ get_or (map (λ s. s.answer) now) c Waiting) → Collecting seats then asks (set left i (record (get_or left i d) { answer = answer })) (i + 1)
  collecting_more answer cloud at is clouds others = record {
    answers =
        map_set asks left i d _ l (collected_ask seats) so_far.answers
        (ap (λ x. record (get_or left i d) { answer = x }) (is ∙ ap (λ c. get_or (map (λ (s : Seat C). s.answer) now) c Waiting) at ∙ so_far.waiting (get_or left i d).cloud apart));
    clouds = clouds ∙ so_far.clouds;
    below = All-set (λ a. a.cloud < length seats) left i _ (so_far.below i d m) so_far.below;
    waiting = λ c none. others c (λ e. not_here c none (e ∙ at)) ∙ so_far.waiting c (earlier c none);
  }
