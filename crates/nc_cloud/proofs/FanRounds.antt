-- A round that each cloud served in its seat, over entries of any kind.
use Rattle.std.proofs.Common.{◌≡◌, ◌≢◌, ℕ, ◌<◌, ◌≤◌, None, Some, List, map, length, get_or, refl, sym, ap, ◌∙◌, subst, arith, All, AllPairs, nat_eq}
use Rattle.std.specs.List.{find}
use Rattle.std.proofs.lemmas.List.{length-map, get_or-map}
use Rattle.std.proofs.lemmas.List.Elements.{All-map}
use Rattle.nc_cloud.specs.declared.seats.Seat.{Seat}
use Rattle.nc_cloud.specs.Contents.{Rose, Grows}
use Rattle.nc_cloud.specs.Seats.{AllServed, Ended, Serves, clouds_in, count_at}
use Rattle.nc_cloud.proofs.Entries.{Stands, entry, entry_back, entry_in}
use Rattle.nc_cloud.proofs.Fans.{Served, seat_value, idle, busy, each_cloud}

-- a kind of entries: whose one is, its answer, and where the answer stands in a seat
pub record Kind (C X A : Type 0) : Type 0 where
  pub cloud : X → ℕ
  pub answer : X → A
  pub seated : Seat C → A
  pub waiting : A
  pub failed : A
  pub with_answer : A → X → X
  pub same_cloud : (a : A) (x : X) → cloud (with_answer a x) ≡ cloud x
  pub new_answer : (a : A) (x : X) → answer (with_answer a x) ≡ a

-- an entry with the answer that stands in its cloud's seat
abbrev pub collected : {C X A : Type 0} → Kind C X A → List (Seat C) → X → X
collected kind seats x = kind.with_answer (get_or (map kind.seated seats) (kind.cloud x) kind.waiting) x

-- each seat served its entry, and then each entry took its answer
pub record FanRound {C X A : Type 0} (exactly : Type 0) (count other : C → ℕ) (kind : Kind C X A) (did : X → Seat C → Seat C → Type 0) (xs left : List X) (old mid new : List (Seat C)) : Type 0 where
  pub below : All (λ x. kind.cloud x < length old) xs
  pub once : AllPairs (λ x y. kind.cloud x ≢ kind.cloud y) xs
  pub served : AllServed (λ c. Serves did (find (λ x. nat_eq (kind.cloud x) c) xs)) old mid
  pub answers : left ≡ map (collected kind mid) xs
  pub clouds : clouds_in new ≡ clouds_in mid
  pub ended : (x : X) (s t : Seat C) → did x s t → Ended exactly count other kind.waiting kind.failed (kind.seated t) s.cloud t.cloud

module _ {C X A : Type 0} {exactly : Type 0} {count other : C → ℕ} {kind : Kind C X A} {did : X → Seat C → Seat C → Type 0} {xs left : List X} {old mid new : List (Seat C)} (r : FanRound exactly count other kind did xs left old mid new) where
  abbrev Did : ℕ → X → Type 0
  Did c x = Served did old mid c x

  -- an entry as the seat that served it answers it
  abbrev with_seat : X → Seat C → X
  with_seat x seat = kind.with_answer (kind.seated (get_or mid (kind.cloud x) seat)) x

  served_it : (k : ℕ) (d : X) → k < length xs → Did (kind.cloud (get_or xs k d)) (get_or xs k d)
  served_it k d l = busy kind.cloud did xs old mid r.below r.served (kind.cloud (get_or xs k d)) (get_or xs k d) (entry_in kind.cloud (kind.cloud (get_or xs k d)) xs r.once k d l refl)

  answer_in : (c : ℕ) (x : X) (s : Did c x) → get_or (map kind.seated mid) c kind.waiting ≡ kind.seated (get_or mid c s.seat)
  answer_in c x s = get_or-map kind.seated mid c s.seat kind.waiting s.within_mid

  -- each entry is served in one seat, whose answer stands in it
  pub all_left : (P : X → Type 0) → ((x : X) (s : Did (kind.cloud x) x) → P (with_seat x s.seat)) → All P left
  all_left P each =
      subst (All P) (sym r.answers) (All-map P (collected kind mid) xs (λ k d l.
      let x : X = get_or xs k d in
      let s : Did (kind.cloud x) x = served_it k d l in
      subst (λ a. P (kind.with_answer a x)) (sym (answer_in (kind.cloud x) x s)) (each x s)))

  value_new : {Y : Type 0} (f : C → Y) (c : ℕ) (s : Seat C) (e : Y) → c < length mid → get_or (map f (clouds_in new)) c e ≡ f (get_or mid c s).cloud
  value_new f c s e l = ap (λ cs. get_or (map f cs) c e) r.clouds ∙ seat_value f mid c s e l

  -- what holds of a value before and after a seat served
  by_seat : {Y : Type 0} (f : C → Y) (e : Y) (P : Y → Y → Type 0) (c : ℕ) (x : X) (s : Did c x) → P (f (get_or old c s.seat).cloud) (f (get_or mid c s.seat).cloud) → P (get_or (map f (clouds_in old)) c e) (get_or (map f (clouds_in new)) c e)
  by_seat f e P c x s is =
      subst (λ y. P y (get_or (map f (clouds_in new)) c e)) (sym (seat_value f old c s.seat e s.within))
      (subst (P (f (get_or old c s.seat).cloud)) (sym (value_new f c s.seat e s.within_mid)) is)

  -- for each entry's cloud
  pub for_entries : {Y : Type 0} (f : C → Y) (e : Y) (P : X → Y → Y → Type 0) → ((x : X) (s : Did (kind.cloud x) x) → P (with_seat x s.seat) (f (get_or old (kind.cloud x) s.seat).cloud) (f (get_or mid (kind.cloud x) s.seat).cloud))
      → All (λ x. P x (get_or (map f (clouds_in old)) (kind.cloud x) e) (get_or (map f (clouds_in new)) (kind.cloud x) e)) left
  for_entries f e P each =
      all_left (λ x. P x (get_or (map f (clouds_in old)) (kind.cloud x) e) (get_or (map f (clouds_in new)) (kind.cloud x) e)) (λ x s.
      subst (λ c. P (with_seat x s.seat) (get_or (map f (clouds_in old)) c e) (get_or (map f (clouds_in new)) c e)) (sym (kind.same_cloud (kind.seated (get_or mid (kind.cloud x) s.seat)) x))
      (by_seat f e (P (with_seat x s.seat)) (kind.cloud x) x s (each x s)))

  -- for each cloud, with an entry or without one
  pub for_clouds : {Y : Type 0} (f : C → Y) (e : Y) (P : ℕ → Y → Y → Type 0) → ((c : ℕ) (y : Y) → entry kind.cloud c xs ≡ None → P c y y)
      → ((c : ℕ) (x : X) (s : Did c x) → entry kind.cloud c xs ≡ Some x → P c (f (get_or old c s.seat).cloud) (f (get_or mid c s.seat).cloud))
      → (c : ℕ) → P c (get_or (map f (clouds_in old)) c e) (get_or (map f (clouds_in new)) c e)
  for_clouds f e P without with_one =
      each_cloud kind.cloud did xs old mid r.below r.served (λ c. P c (get_or (map f (clouds_in old)) c e) (get_or (map f (clouds_in new)) c e))
      (λ c none.
      let same : get_or (map f (clouds_in new)) c e ≡ get_or (map f (clouds_in old)) c e = ap (λ cs. get_or (map f cs) c e) r.clouds ∙ idle kind.cloud did xs old mid r.below r.served f e c none in
      subst (P c (get_or (map f (clouds_in old)) c e)) (sym same) (without c (get_or (map f (clouds_in old)) c e) none))
      (λ c x some s. by_seat f e (P c) c x s (with_one c x s some))

  -- what no entry changes
  pub fan_stays : {Y : Type 0} (f : C → Y) (e : Y) → ((x : X) (s t : Seat C) → did x s t → f t.cloud ≡ f s.cloud) → (c : ℕ) → get_or (map f (clouds_in new)) c e ≡ get_or (map f (clouds_in old)) c e
  fan_stays f e same = for_clouds f e (λ c before after. after ≡ before) (λ c y none. refl) (λ c x s some. same x _ _ s.done)

  -- where the entry of a cloud stands, it stands with its answer
  left_at : (c : ℕ) (x : X) (at : Stands kind.cloud xs c x) (d : X) → get_or left at.i d ≡ collected kind mid x
  left_at c x at d = ap (λ ys. get_or ys at.i d) r.answers ∙ get_or-map (collected kind mid) xs at.i x d at.within ∙ ap (collected kind mid) (at.is x)

  left_length : length left ≡ length xs
  left_length = ap length r.answers ∙ length-map xs (collected kind mid)

  pub answer_of : (c : ℕ) (x : X) (s : Did c x) → kind.cloud x ≡ c → kind.answer (collected kind mid x) ≡ kind.seated (get_or mid c s.seat)
  answer_of c x s of_cloud = kind.new_answer _ x ∙ ap (λ k. get_or (map kind.seated mid) k kind.waiting) of_cloud ∙ answer_in c x s

  pub fan_answered : All (λ x. kind.answer x ≢ kind.waiting) left
  fan_answered = all_left (λ x. kind.answer x ≢ kind.waiting) (λ x s is. (r.ended x _ _ s.done).answered (sym (kind.new_answer _ x) ∙ is))

  pub fan_failed : All (λ x. kind.answer x ≡ kind.failed → Rose (count_at count (clouds_in old) (kind.cloud x)) (count_at count (clouds_in new) (kind.cloud x))) left
  fan_failed = for_entries count 0 (λ x before after. kind.answer x ≡ kind.failed → Rose before after) (λ x s is. (r.ended x _ _ s.done).failed (sym (kind.new_answer _ x) ∙ is))

  pub fan_exact : exactly → (c : ℕ) → All (λ x. kind.cloud x ≡ c → kind.answer x ≢ kind.failed) left → count_at count (clouds_in new) c ≡ count_at count (clouds_in old) c
  fan_exact exact = for_clouds count 0 (λ c before after. All (λ x. kind.cloud x ≡ c → kind.answer x ≢ kind.failed) left → after ≡ before)
      (λ c y none all. refl)
      (λ c x s some all.
      let at : Stands kind.cloud xs c x = entry_back kind.cloud c xs x some in
      let low : at.i < length left = let within : at.i < length xs = at.within in omega (arith, left_length) in
      let of_cloud : kind.cloud (get_or left at.i x) ≡ c = ap kind.cloud (left_at c x at x) ∙ kind.same_cloud _ x ∙ at.of_cloud in
      (r.ended x _ _ s.done).exact exact (λ is. all at.i x low of_cloud (ap kind.answer (left_at c x at x) ∙ answer_of c x s at.of_cloud ∙ is)))

  pub fan_grows : Grows (count_at count (clouds_in old)) (count_at count (clouds_in new))
  fan_grows = for_clouds count 0 (λ c before after. before ≤ after) (λ c y none. omega arith) (λ c x s some. (r.ended x _ _ s.done).later)

  pub fan_others : count_at other (clouds_in new) ≡ count_at other (clouds_in old)
  fan_others = λ i c. fan_stays other 0 (λ x s t done. (r.ended x s t done).others) c i
