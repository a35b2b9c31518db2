-- What a round that each cloud served in its seat promises.
use Rattle.std.proofs.Common.{◌≡◌, ℕ, ◌<◌, ◌≤◌, Option, None, Some, List, map, length, get_or, refl, sym, ap, ◌∙◌, subst, arith, All, nat_eq, inl, inr}
use Rattle.std.specs.List.{find}
use Rattle.std.proofs.Math.ListN.{get_or-eq_default}
use Rattle.std.proofs.lemmas.Bool.{cases_lt}
use Rattle.std.proofs.lemmas.List.{length-map, get_or-map}
use Rattle.nc_cloud.specs.declared.seats.Seat.{Seat}
use Rattle.nc_cloud.specs.Fleet.{got_count}
use Rattle.nc_cloud.specs.Seats.{clouds_in, AllServed, Serves}
use Rattle.nc_cloud.proofs.Entries.{Stands, entry, entry_back, some_of}

-- a seat of a list of clouds
pub seat_value : {C Y : Type 0} (f : C → Y) (seats : List (Seat C)) (c : ℕ) (d : Seat C) (e : Y) → c < length seats → get_or (map f (clouds_in seats)) c e ≡ f (get_or seats c d).cloud
seat_value f seats c d e l =
    let within : c < length (clouds_in seats) = omega (arith, length-map seats (λ s. s.cloud)) in
    get_or-map f (clouds_in seats) c d.cloud e within ∙ ap f (get_or-map (λ s. s.cloud) seats c d d.cloud l)

seat_none : {C Y : Type 0} (f : C → Y) (seats : List (Seat C)) (c : ℕ) (e : Y) → length seats ≤ c → get_or (map f (clouds_in seats)) c e ≡ e
seat_none f seats c e l = get_or-eq_default (map f (clouds_in seats)) e (omega (arith, length-map (clouds_in seats) f, length-map seats (λ s. s.cloud)))

-- a seat that served an entry
pub record Served {C X : Type 0} (did : X → Seat C → Seat C → Type 0) (old mid : List (Seat C)) (c : ℕ) (x : X) : Type 0 where
  pub seat : Seat C
  pub within : c < length old
  pub within_mid : c < length mid
  pub done : did x (get_or old c seat) (get_or mid c seat)

module _ {C X : Type 0} (cloud : X → ℕ) (did : X → Seat C → Seat C → Type 0) (xs : List X) (old mid : List (Seat C)) (below : All (λ x. cloud x < length old) xs) (served : AllServed (λ c. Serves did (find (λ x. nat_eq (cloud x) c) xs)) old mid) where
  -- a cloud without an entry stays as it was
  pub idle : {Y : Type 0} (f : C → Y) (e : Y) (c : ℕ) → entry cloud c xs ≡ None → get_or (map f (clouds_in mid)) c e ≡ get_or (map f (clouds_in old)) c e
  idle f e c none =
      elim (cases_lt c (length old)) [
        | inl l ↦
            let d : Seat C = some_of old (omega arith) in
            let same : get_or mid c d ≡ get_or old c d = subst (λ o. Serves did o (get_or old c d) (get_or mid c d)) none (served.each c d l) in
            let l' : c < length mid = omega (arith, served.same_length) in
            seat_value f mid c d e l' ∙ ap (λ (s : Seat C). f s.cloud) same ∙ sym (seat_value f old c d e l)
        | inr m ↦ seat_none f mid c e (omega (arith, served.same_length)) ∙ sym (seat_none f old c e m)
      ]

  -- a cloud with one has served it
  pub busy : (c : ℕ) (x : X) → entry cloud c xs ≡ Some x → Served did old mid c x
  busy c x some =
      let at : Stands cloud xs c x = entry_back cloud c xs x some in
      let low : cloud (get_or xs at.i x) < length old = below at.i x at.within in
      let l : c < length old = subst (λ k. k < length old) (ap cloud (at.is x) ∙ at.of_cloud) low in
      let d : Seat C = some_of old (omega arith) in
      record { seat = d; within = l; within_mid = omega (arith, l, served.same_length); done = subst (λ o. Serves did o (get_or old c d) (get_or mid c d)) some (served.each c d l) }

  -- either of the two
  module _ (P : ℕ → Type 0) (no : (c : ℕ) → entry cloud c xs ≡ None → P c) (yes : (c : ℕ) (x : X) → entry cloud c xs ≡ Some x → Served did old mid c x → P c) where
    by_entry : (c : ℕ) (o : Option X) → entry cloud c xs ≡ o → P c
    by_entry c None e = no c e
    by_entry c (Some x) e = yes c x e (busy c x e)

    pub each_cloud : (c : ℕ) → P c
    each_cloud c = by_entry c (entry cloud c xs) refl

-- a count after nothing
pub got_none : (before : ℕ) → before ≡ got_count before 0
got_none before = omega arith
