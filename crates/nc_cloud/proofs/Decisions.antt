-- How a round decides, over entries of any kind.
use Rattle.std.proofs.Common.{◌≡◌, ◌≢◌, ◌<◌, ℕ, true, false, List, [], ◌∷◌, map, length, get_or, All, AllPairs, sym, ap, ◌∙◌, subst, arith, inl, inr}
use Rattle.std.proofs.lemmas.Bool.{cases_lt}
use Rattle.std.proofs.lemmas.List.{length-map, get_or-map}
use Rattle.nc_cloud.specs.Contents.{Rose}
use Rattle.nc_cloud.specs.Rounds.{row}
use Rattle.nc_cloud.proofs.Rounds.{row_length, row_at}
use Rattle.nc_cloud.specs.declared.deciding.RoundFault.{RoundFault}
use Rattle.nc_cloud.specs.declared.deciding.RoundFault.TheVariants.{Cloud, Memory}
use Rattle.nc_cloud.specs.declared.fleet.Ask.{Ask}
use Rattle.nc_cloud.specs.declared.fleet.Answer.TheVariants as answer
use Rattle.nc_cloud.specs.declared.fleet.Job.{Job}
use Rattle.nc_cloud.specs.declared.fleet.Done.TheVariants as done
use Rattle.nc_cloud.specs.Deciding.{AreAscending, IsLeast, HasCause, IsSeen}

-- entries that keep what p sees of them keep their clouds
pub ascend_kept : {A X : Type 0} (p : A → X) (cloud : X → ℕ) (n : ℕ) (old new : List A) → map p new ≡ map p old → AreAscending (λ a. cloud (p a)) n old → AreAscending (λ a. cloud (p a)) n new
ascend_kept {A = A} p cloud n old new same by =
    let long : length new ≡ length old = sym (length-map new p) ∙ ap length same ∙ length-map old p in
    let at : (i : ℕ) (d : A) → i < length new → cloud (p (get_or new i d)) ≡ cloud (p (get_or old i d)) =
    λ i d l.
    let here : i < length old = omega (arith, long) in
    ap cloud (sym (get_or-map p new i d (p d) l) ∙ ap (λ xs. get_or xs i (p d)) same ∙ get_or-map p old i d (p d) here) in
    record {
      below = λ i d l. let here : i < length old = omega (arith, long) in subst (λ c. c < n) (sym (at i d l)) (by.below i d here);
      rising = λ i j d l m.
          let last : j < length old = omega (arith, long) in
          let first : i < length new = omega arith in
          let lower : cloud (p (get_or old i d)) < cloud (p (get_or old j d)) = by.rising i j d l last in
          omega (arith, at i d first, at j d m, lower);
    }

-- entries that are one for each cloud
pub ascend_row : {A X : Type 0} (p : A → X) (cloud : X → ℕ) (f : ℕ → X) → ((c : ℕ) → cloud (f c) ≡ c) → (n : ℕ) (xs : List A) → map p xs ≡ row f 0 n → AreAscending (λ a. cloud (p a)) n xs
ascend_row {A = A} p cloud f is n xs all =
    let long : length xs ≡ n = row_length p f n xs all in
    let at : (i : ℕ) (d : A) → i < n → cloud (p (get_or xs i d)) ≡ i = λ i d l. ap cloud (row_at p f n xs all i l d) ∙ is i in
    record {
      below = λ i d l. let here : i < n = omega (arith, long) in omega (arith, at i d here, here);
      rising = λ i j d l m.
          let last : j < n = omega (arith, long) in
          let first : i < n = omega arith in
          omega (arith, at i d first, at j d last, l);
    }

-- no two entries are of one cloud
pub once : {A : Type 0} (cloud : A → ℕ) (n : ℕ) (xs : List A) → AreAscending cloud n xs → AllPairs (λ a b. cloud a ≢ cloud b) xs
once cloud n xs by i j d l m same =
    let lower : cloud (get_or xs i d) < cloud (get_or xs j d) = by.rising i j d l m in
    absurd (omega (arith, same, lower))

module _ {A : Type 0} (cloud : A → ℕ) (IsFine Fails : A → Type 0) (Blames : A → RoundFault → Type 0)
    (blamed : (x : A) (c : ℕ) → Blames x (Cloud c) → Fails x × (c ≡ cloud x)) (fine : (x : A) → IsFine x → Fails x → ⊥)
    (exact : Type 0) (before now : ℕ → ℕ) where
  module _ (n : ℕ) (entries : List A) (by : AreAscending cloud n entries)
      (failed : All (λ x. Fails x → Rose (before (cloud x)) (now (cloud x))) entries)
      (counts : exact → (c : ℕ) → All (λ x. cloud x ≡ c → Fails x → ⊥) entries → now c ≡ before c) where
    -- an entry of a lower cloud comes before
    lower : (at k : ℕ) (d : A) → k < length entries → at < length entries → cloud (get_or entries k d) < cloud (get_or entries at d) → k < at
    lower at k d l within less =
        elim (cases_lt k at) [
          | inl before ↦ before
          | inr after ↦
              elim (cases_lt at k) [
                | inl later ↦
                    let more : cloud (get_or entries at d) < cloud (get_or entries k d) = by.rising at k d later l in
                    absurd (omega (arith, more, less))
                | inr sooner ↦
                    let e : k ≡ at = omega arith in
                    let alike : cloud (get_or entries k d) ≡ cloud (get_or entries at d) = ap (λ i. cloud (get_or entries i d)) e in
                    absurd (omega (arith, alike, less))
              ]
        ]

    -- an entry at some place
    caused_at : (d : A) (fault : RoundFault) → IsLeast IsFine Blames entries fault → HasCause exact before now fault
    caused_at d (Cloud c) least =
        let is = blamed (get_or entries least.at d) c (least.here d) in (
          subst (λ k. Rose (before k) (now k)) (sym is.1) (failed least.at d least.within is.0),
          λ told b low. counts told b (λ k e l same fails.
              let at = blamed (get_or entries least.at e) c (least.here e) in
              let less : cloud (get_or entries k e) < cloud (get_or entries least.at e) = omega (arith, same, at.1, low) in
              fine (get_or entries k e) (least.before k e (lower least.at k e l least.within less)) fails),
        )
    caused_at d Memory least = tt

  -- the first entry that isn't fine gives the cause
  pub caused : (n : ℕ) (entries : List A) → AreAscending cloud n entries → All (λ x. Fails x → Rose (before (cloud x)) (now (cloud x))) entries
      → (exact → (c : ℕ) → All (λ x. cloud x ≡ c → Fails x → ⊥) entries → now c ≡ before c) → (fault : RoundFault) → IsLeast IsFine Blames entries fault → HasCause exact before now fault
  caused n [] by failed counts fault least = absurd (omega (arith, least.within))
  caused n (x ∷ xs) by failed counts fault least = caused_at n (x ∷ xs) by failed counts x fault least

-- where each entry says something, exact counts stay
pub seen_counts : (asks : List Ask) (before now : ℕ → ℕ) → ((c : ℕ) → All (λ a. a.cloud ≡ c → a.answer ≢ answer.Failed) asks → now c ≡ before c)
    → All (λ a. IsSeen a.answer ≡ true) asks → (c : ℕ) → now c ≡ before c
seen_counts asks before now counts seen c = counts c (λ k d l same failed. let e : IsSeen (get_or asks k d).answer ≡ false = ap IsSeen failed in let s : IsSeen (get_or asks k d).answer ≡ true = seen k d l in cc)

pub done_counts : (jobs : List Job) (before now : ℕ → ℕ) → ((c : ℕ) → All (λ j. j.cloud ≡ c → j.done ≢ done.Failed) jobs → now c ≡ before c)
    → All (λ j. j.done ≡ done.Ok) jobs → (c : ℕ) → now c ≡ before c
done_counts jobs before now counts ok c = counts c (λ k d l same failed. let s : (get_or jobs k d).done ≡ done.Ok = ok k d l in cc)
