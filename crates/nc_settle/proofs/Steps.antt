-- The steps of what follows from a view.
use Rattle.std.proofs.Common.{ℕ, ◌≡◌, ◌+◌, ◌<◌, ◌≤◌, Option, None, Some, IfSome, IfNone, sym, ◌∙◌, subst, arith, inl, inr, if◌then◌else◌, Bool}
use Rattle.std.specs.Borrow.{Bor}
use Rattle.std.proofs.lemmas.Bool.{cases_lt, lt-ltb, le-ltb}
use Rattle.nc_meta.specs.declared.meta.Meta.{Meta}
use Rattle.nc_meta.specs.Metas.{generation_of}
use Rattle.nc_settle.specs.declared.deciding.Top.{Top}
use Rattle.nc_settle.specs.Views.{Places, width_of}
use Rattle.nc_settle.specs.Decisions.{AgreesOn, HasMisplaced, HasSealed, IsFromElsewhere, IsLeastMisplaced, SeesTop, IsTopOf, NoConflict, SeesNoneOf}
use Rattle.nc_settle.specs.Tops.{IsBestOn, IsTopSoFar, top_after, top_at}

pub none_weaker : {T P Q : Type 0} (o : Option T) → (P → Q) → IfNone o P → IfNone o Q
none_weaker None f p = f p
none_weaker (Some x) f p = tt

-- what holds below k and at k holds below k + 1
pub each_more : (P : ℕ → Type 0) (k : ℕ) → ((c : ℕ) → c < k → P c) → P k → (c : ℕ) → c < k + 1 → P c
each_more P k before here c l = elim (cases_lt c k) [
  | inl low ↦ before c low
  | inr high ↦ let same : k ≡ c = omega arith in subst P same here
]

pub least_misplaced : (v : Places) (c d a b : ℕ) → d ≡ c → c < width_of v → IsFromElsewhere v c a b → ((e : ℕ) → e < c → HasMisplaced v e → ⊥) → IsLeastMisplaced v d a b
least_misplaced v c d a b same in_width from before = subst (λ (k : ℕ). IsLeastMisplaced v k a b) (sym same) (record { in_width = in_width; from = from; before = before })

-- where all metas of the top's generation are the top, they are all one
pub no_conflict : (v : Places) (t : ℕ) (top : Meta) → SeesTop v t top → ((c : ℕ) → c < width_of v → AgreesOn v c top) → NoConflict v
no_conflict v t top is agree a c m also in_width o has same =
    let up : generation_of m ≤ generation_of top = is.highest a m also.in_width also.has in
    let down : generation_of top ≤ generation_of m = also.highest t top is.in_width is.has in
    let level : generation_of m ≡ generation_of top = omega arith in
    let m_is : m ≡ top = agree a also.in_width m also.has level in
    let o_is : o ≡ top = agree c in_width o has (same ∙ level) in
    o_is ∙ sym m_is

-- one cloud more
module _ (v : Places) (n : ℕ) where
  none_more : SeesNoneOf v n → ((m : Meta) → HasSealed v n m → ⊥) → SeesNoneOf v (n + 1)
  none_more none here c m l = each_more (λ k. (o : Meta) → HasSealed v k o → ⊥) n (λ k low o. none k o low) here c l m

  first_top : SeesNoneOf v n → (m : Meta) → IsBestOn v n m → IsTopOf v (n + 1) n m
  first_top none m best = record {
    in_width = omega arith;
    has = best.has;
    highest = λ d o l. each_more (λ k. (p : Meta) → HasSealed v k p → generation_of p ≤ generation_of m) n (λ k low p has. absurd (none k p low has)) best.highest d l o;
    least = λ d o l has. absurd (none d o l has);
  }

  top_stays : (c : ℕ) (m : Meta) → IsTopOf v n c m → ((o : Meta) → HasSealed v n o → generation_of o ≤ generation_of m) → IsTopOf v (n + 1) c m
  top_stays c m top lower = record {
    in_width = omega (arith, top.in_width);
    has = top.has;
    highest = λ d o l. each_more (λ k. (p : Meta) → HasSealed v k p → generation_of p ≤ generation_of m) n (λ k low p. top.highest k p low) lower d l o;
    least = top.least;
  }

  top_rises : (c : ℕ) (m : Meta) → IsTopOf v n c m → (o : Meta) → IsBestOn v n o → generation_of m < generation_of o → IsTopOf v (n + 1) n o
  top_rises c m top o best higher = record {
    in_width = omega arith;
    has = best.has;
    highest = λ d p l. each_more (λ k. (q : Meta) → HasSealed v k q → generation_of q ≤ generation_of o) n
        (λ k low q has. let lower : generation_of q ≤ generation_of m = top.highest k q low has in omega arith) best.highest d l p;
    least = λ d p l has. let lower : generation_of p ≤ generation_of m = top.highest d p l has in omega arith;
  }

  pub top_more : (top : Option Top) (found : Option (Bor Meta)) → IsTopSoFar v n top → IfSome found (λ m. IsBestOn v n m.now) → IfNone found ((m : Meta) → HasSealed v n m → ⊥)
      → IsTopSoFar v (n + 1) (top_after top n found)
  top_more None None so_far some none = record { some = tt; none = none_more so_far.none none }
  top_more (Some t) None so_far some none = record { some = top_stays t.cloud t.meta.now so_far.some (λ o has. absurd (none o has)); none = tt }
  top_more None (Some m) so_far some none = record { some = first_top so_far.none m.now some; none = tt }
  top_more (Some t) (Some m) so_far some none = elim (cases_lt (generation_of t.meta.now) (generation_of m.now)) [
    | inl higher ↦
        subst (λ (b : Bool). IsTopSoFar v (n + 1) (Some (if b then top_at n m else t))) (sym (lt-ltb _ _ higher))
        (record { some = top_rises t.cloud t.meta.now so_far.some m.now some higher; none = tt })
    | inr lower ↦
        subst (λ (b : Bool). IsTopSoFar v (n + 1) (Some (if b then top_at n m else t))) (sym (le-ltb _ _ lower))
        (record { some = top_stays t.cloud t.meta.now so_far.some (λ o has. let below : generation_of o ≤ generation_of m.now = some.highest o has in omega arith); none = tt })
  ]
