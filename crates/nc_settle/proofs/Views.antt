-- Lists of places that grow.
use Rattle.std.proofs.Common.{ℕ, ◌≡◌, ◌+◌, ◌<◌, List, [], ◌∷◌, ◌++◌, length, get_or, sym, ap, ◌∙◌, subst, refl, arith, length-append, inl, inr}
use Rattle.std.proofs.lemmas.Bool.{cases_lt}
use Rattle.std.proofs.lemmas.List.{get_or_append_left}
use Rattle.std.proofs.Math.Seq.{get_or-append_seam}
use Rattle.nc_cloud.specs.declared.fleet.Ask.{Ask}
use Rattle.nc_settle.specs.declared.place.Place.{Place}
use Rattle.nc_settle.specs.Judging.{Judges}
use Rattle.nc_settle.specs.Rounds.{AreJudged, IsJudged, JudgesCloud}

-- the place that follows from the entry at an index
pub judged_at : (n : ℕ) (name : List ℕ) (slot c : ℕ) (asks : List Ask) (i : ℕ) (a : Ask) (p : Place) → i < length asks → ((d : Ask) → get_or asks i d ≡ a) → a.cloud ≡ c → Judges n name slot c a.answer p
    → IsJudged n name slot c asks p
judged_at n name slot c asks i a p l at is follows = record {
  entry = i;
  within = l;
  of_cloud = λ d. ap (λ (b : Ask). b.cloud) (at d) ∙ is;
  follows = λ d. subst (λ (b : Ask). Judges n name slot c b.answer p) (sym (at d)) follows;
}

pub judged_none : (n : ℕ) (name : List ℕ) (slot : ℕ) (asks : List Ask) → AreJudged n name slot 0 asks []
judged_none n name slot asks = record { count = refl; each = λ c e l. absurd (omega arith) }

-- one cloud more
pub judged_more : (n : ℕ) (name : List ℕ) (slot k : ℕ) (asks : List Ask) (p : Place) (old new : List Place) → AreJudged n name slot k asks old → JudgesCloud n name slot k asks p → new ≡ old ++ p ∷ []
    → AreJudged n name slot (k + 1) asks new
judged_more n name slot k asks p old new are judges pushed = record {
  count = ap length pushed ∙ length-append old (p ∷ []) ∙ ap (λ m. m + 1) are.count;
  each = λ c e l. elim (cases_lt c k) [
    | inl low ↦
        let there : get_or new c e ≡ get_or old c e = ap (λ ps. get_or ps c e) pushed ∙ get_or_append_left old (p ∷ []) e c (omega (arith, are.count)) in
        subst (λ (q : Place). JudgesCloud n name slot c asks q) (sym there) (are.each c e low)
    | inr high ↦
        let here : k ≡ c = omega arith in
        let at : k ≡ length old = sym are.count in
        let there : get_or new k e ≡ p = ap (λ ps. get_or ps k e) pushed ∙ ap (λ m. get_or (old ++ p ∷ []) m e) at ∙ get_or-append_seam old p [] e in
        subst (λ (d : ℕ). JudgesCloud n name slot d asks (get_or new d e)) here (subst (λ (q : Place). JudgesCloud n name slot k asks q) (sym there) judges)
  ];
}
