-- A call on the cloud of one seat.
use Rattle.std.proofs.Common.{◌≡◌, ◌≢◌, ℕ, ◌<◌, List, map, length, get_or, refl, sym, ap, ◌∙◌, subst, arith, inl, inr}
use Rattle.std.proofs.Math.ListN.{set}
use Rattle.std.proofs.lemmas.Bool.{cases_eq}
use Rattle.std.proofs.lemmas.List.{get_or-set_other, get_or-set_same, length-set, map-set}
use Rattle.nc_cloud.specs.declared.seats.Seat.{Seat}
use Rattle.nc_cloud.specs.Seats.{clouds_in}
use Rattle.nc_cloud.proofs.Fans.{seat_value}

module _ {C Y : Type 0} (f : C → Y) (e : Y) (seats : List (Seat C)) (i : ℕ) (s d : Seat C) (l : i < length seats) where
  -- its own value
  pub seat_here : get_or (map f (clouds_in (set seats i s))) i e ≡ f s.cloud
  seat_here =
      let within : i < length (set seats i s) = omega (arith, length-set seats i s) in
      seat_value f (set seats i s) i d e within ∙ ap (λ (t : Seat C). f t.cloud) (get_or-set_same seats i s d l)

  seat_elsewhere : (c : ℕ) → c ≢ i → get_or (map f (clouds_in (set seats i s))) c e ≡ get_or (map f (clouds_in seats)) c e
  seat_elsewhere c other =
      ap (λ cs. get_or (map f cs) c e) (map-set (λ (t : Seat C). t.cloud) seats i s)
      ∙ ap (λ ys. get_or ys c e) (map-set f (clouds_in seats) i s.cloud)
      ∙ get_or-set_other (map f (clouds_in seats)) i c (f s.cloud) e other

  -- what holds of a value before and after the call holds at this cloud
  pub one_here : (P : Y → Y → Type 0) → P (f (get_or seats i d).cloud) (f s.cloud)
      → P (get_or (map f (clouds_in seats)) i e) (get_or (map f (clouds_in (set seats i s))) i e)
  one_here P is =
      subst (λ y. P y (get_or (map f (clouds_in (set seats i s))) i e)) (sym (seat_value f seats i d e l))
      (subst (P (f (get_or seats i d).cloud)) (sym seat_here) is)

  -- and at each other, where it holds of what stays
  pub one_seat : (P : ℕ → Y → Y → Type 0) → ((c : ℕ) (y : Y) → c ≢ i → P c y y) → P i (f (get_or seats i d).cloud) (f s.cloud)
      → (c : ℕ) → P c (get_or (map f (clouds_in seats)) c e) (get_or (map f (clouds_in (set seats i s))) c e)
  one_seat P stays is c =
      elim (cases_eq c i) [
        | inl same ↦
            subst (λ k. P k (get_or (map f (clouds_in seats)) k e) (get_or (map f (clouds_in (set seats i s))) k e)) (sym same)
            (one_here (P i) is)
        | inr other ↦ subst (P c (get_or (map f (clouds_in seats)) c e)) (sym (seat_elsewhere c other)) (stays c _ other)
      ]

  -- what the call keeps
  pub one_still : f s.cloud ≡ f (get_or seats i d).cloud
      → ◌≡◌ {A = ℕ → Y} (λ c. get_or (map f (clouds_in (set seats i s))) c e) (λ c. get_or (map f (clouds_in seats)) c e)
  one_still same = λ k c. one_seat (λ c before after. after ≡ before) (λ c y other. refl) same c k
