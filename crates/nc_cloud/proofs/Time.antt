-- How a run of rounds goes on.
use Rattle.std.proofs.Common.{◌≡◌, ℕ, ◌≤◌, inl, inr, refl, sym, ◌∙◌, subst, arith}
use Rattle.std.proofs.Math.Logic.{⊎_elim}
use Rattle.nc_cloud.specs.Contents.{Contents}
use Rattle.nc_cloud.specs.Time.{Elapses, Stays}
use Rattle.nc_cloud.specs.Stopping.{GoesOn, Stops, Keeps}
use Rattle.nc_cloud.specs.declared.fleet.Fleet.{Ghosts as FleetGhosts}

pub stays_none : (moment : ℕ) (past : ℕ → Contents) → Stays moment past past
stays_none moment past = record { each = λ t le. refl }

pub stays_then : (m n : ℕ) (a b c : ℕ → Contents) → m ≤ n → Stays m a b → Stays n b c → Stays m a c
stays_then m n a b c le x y = record { each = λ t within. y.each t (omega arith) ∙ x.each t within }

module _ {A : Type 0} {F : FleetGhosts A} where
  -- nothing was done
  pub goes_none : (old : A) → GoesOn F old old
  goes_none old = record { later = omega arith; stays = λ told. stays_none _ _ }

  -- one part after another
  pub goes_then : {old mid new : A} → GoesOn F old mid → GoesOn F mid new → GoesOn F old new
  goes_then a b = record {
    later = omega (arith, a.later, b.later);
    stays = λ told. stays_then _ _ _ _ _ a.later (a.stays told) (b.stays told);
  }

  -- nothing was done
  pub stops_none : (old : A) (P : Contents → Type 0) → Stops F old old P
  stops_none old P = record { time = goes_none old; each = λ t G le is. inl is }

  -- one round, whose images have P
  pub stops_round : {old new : A} {one : Contents → Type 0} (P : Contents → Type 0) → Elapses (F.now old) (F.now new) (F.image old) (F.image new) one → (F.tells_images → Stays (F.now old) (F.past old) (F.past new)) → ((G : Contents) → one G → P G) → Stops F old new P
  stops_round P time stays has = record {
    time = record { later = time.later; stays = stays };
    each = λ t G le is. ⊎_elim (λ was. inl was) (λ i. inr (has G i)) (time.nothing_else t G le is);
  }

  -- one part after another
  pub stops_then : {old mid new : A} {P : Contents → Type 0} → Stops F old mid P → Stops F mid new P → Stops F old new P
  stops_then a b = record {
    time = goes_then a.time b.time;
    each = λ t G le is. ⊎_elim (λ was. a.each t G le was) (λ p. inr p) (b.each t G (omega (arith, le, a.time.later)) is);
  }

  -- contents that have P have Q
  pub stops_more : {old new : A} {P Q : Contents → Type 0} → Stops F old new P → ((G : Contents) → P G → Q G) → Stops F old new Q
  stops_more a has = record {
    time = a.time;
    each = λ t G le is. ⊎_elim (λ was. inl was) (λ p. inr (has G p)) (a.each t G le is);
  }

  -- each image since the start has P
  pub stops_since : {old new : A} {P : Contents → Type 0} (held : Contents) → ((G : Contents) → F.image old (F.now old) G → G ≡ held) → P held → Stops F old new P → (G : Contents) → F.image new (F.now old) G → P G
  stops_since {P = P} held only first a G is = ⊎_elim (λ was. subst P (sym (only G was)) first) (λ p. p) (a.each (F.now _) G (omega arith) is)

  -- two parts that change nothing held
  pub stops_twice : {old mid new : A} → F.held mid ≡ F.held old → Stops F old mid (λ G. G ≡ F.held old) → Stops F mid new (λ G. G ≡ F.held mid) → Stops F old new (λ G. G ≡ F.held old)
  stops_twice same a b = stops_then a (stops_more b (λ G is. is ∙ same))

  -- nothing was done
  pub keeps_none : (old : A) (P : Contents → Type 0) → P (F.held old) → Keeps F old old P
  keeps_none old P p = record { here = p; stops = stops_none old P }

  -- one part after another
  pub keeps_then : {old mid new : A} {P : Contents → Type 0} → Keeps F old mid P → Keeps F mid new P → Keeps F old new P
  keeps_then a b = record { here = b.here; stops = stops_then a.stops b.stops }

  -- by a law of the round
  pub keeps_by : {old new : A} {P : Contents → Type 0} (Q : Contents → Type 0) → Keeps F old new P → ((G : Contents) → P G → Q G) → Keeps F old new Q
  keeps_by Q a has = record { here = has (F.held _) a.here; stops = stops_more a.stops has }

  -- a part that changes nothing held
  pub keeps_look : {old new : A} (P : Contents → Type 0) → F.held new ≡ F.held old → Stops F old new (λ G. G ≡ F.held old) → P (F.held old) → Keeps F old new P
  keeps_look P same a p = record { here = subst P (sym same) p; stops = stops_more a (λ G is. subst P (sym is) p) }
