-- What a good code has for each loss.
use Rattle.std.proofs.Common.{◌≡◌, ℕ, ◌+◌, ◌<◌, ◌≤◌, Bool, true, List, length, eqb, replicate, refl, sym, ap, ◌∙◌, subst, arith, inl, inr}
use Rattle.std.specs.Bool.{Decides}
use Rattle.std.specs.Cmp.Lexicographic.{pointwise}
use Rattle.std.proofs.lemmas.Bool.{cases_lt}
use Rattle.std.proofs.lemmas.Bool.Decides.{Decides-like, Decides-eqb}
use Rattle.std.proofs.lemmas.List.{get_or_past}
use Rattle.std.proofs.lemmas.Slice.Eq.{slice_eq-Decides}
use Rattle.nc_code.specs.Parts.{CodeParts, PlanParts, IsCode}
use Rattle.nc_code.specs.Codes.{IsMds, no_plan}
use Rattle.nc_code.specs.Good.{IsGood, plan_of}
use Rattle.nc_code.specs.declared.plan.Witnesses.{Witnesses}
use Rattle.nc_nextloss.specs.GoodCodes.{IsPlanFor}

abbrev pub parts_of : List ℕ → List (List ℕ) → PlanParts
parts_of choice coefs = record { choice = choice; coefs = coefs }

pub no_plan_decides : (choice : List ℕ) (coefs : List (List ℕ)) (plan : PlanParts) (q r : Bool) → parts_of choice coefs ≡ plan
    → q ≡ true → q ≡ pointwise eqb choice (replicate 10 0) → r ≡ pointwise (pointwise eqb) coefs (replicate 2 (replicate 10 0)) → Decides r (plan ≡ no_plan)
no_plan_decides choice coefs plan q r is passed choices_eq coefs_eq =
    let same : choice ≡ replicate 10 0 = (slice_eq-Decides Decides-eqb choice (replicate 10 0) q choices_eq).0 passed in
    Decides-like r
    (λ e. sym is ∙ ap (λ (x : List ℕ). parts_of x coefs) same ∙ ap (parts_of (replicate 10 0)) e)
    (λ e. ap (λ (p : PlanParts). p.coefs) (is ∙ e))
    (slice_eq-Decides (λ x y. slice_eq-Decides Decides-eqb x y _ refl) coefs (replicate 2 (replicate 10 0)) r coefs_eq)

pub plan_for : (code : CodeParts) (w : Witnesses) (lost : ℕ) → IsGood code w → IsPlanFor code lost (plan_of w lost)
plan_for code w lost good = record {
  witness = good.witness lost;
  bare = good.bare lost;
  past = good.past lost;
}

pub good_of : (code : CodeParts) (w : Witnesses) (n : ℕ) → IsCode code → length w.plans ≡ 10 → 10 ≤ n → IsMds code
    → ((j : ℕ) → j < n → IsPlanFor code j (plan_of w j)) → IsGood code w
good_of code w n kept count all mds each = record {
  mds = mds;
  witness = λ lost low. (each lost (omega (arith, kept.narrow))).witness low;
  bare = λ lost low. (each lost (omega (arith, kept.narrow))).bare low;
  past = λ lost high. elim (cases_lt lost 10) [
    | inl below ↦ (each lost (omega arith)).past high
    | inr beyond ↦ get_or_past w.plans lost no_plan (omega (arith, count))
  ];
}

pub one_more : (code : CodeParts) (w : Witnesses) (n : ℕ) (plan : PlanParts) → ((j : ℕ) → j < n → IsPlanFor code j (plan_of w j))
    → plan ≡ plan_of w n → IsPlanFor code n plan → (j : ℕ) → j < n + 1 → IsPlanFor code j (plan_of w j)
one_more code w n plan each is here j below = elim (cases_lt j n) [
  | inl before ↦ each j before
  | inr at ↦
      let same : n ≡ j = omega arith in
      subst (λ (k : ℕ). IsPlanFor code k (plan_of w k)) same (subst (λ (p : PlanParts). IsPlanFor code n p) is here)
]
