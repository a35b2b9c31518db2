-- A list of ten plans that is filled from its head on.
use Rattle.std.proofs.Common.{◌≡◌, ℕ, ◌+◌, ◌*◌, ◌<◌, ◌≤◌, List, length, get_or, set, slice_index, sym, ◌∙◌, subst, arith, inl, inr}
use Rattle.std.proofs.lemmas.Bool.{cases_lt}
use Rattle.std.proofs.lemmas.List.{get_or-set_same, get_or-set_other, length-set}
use Rattle.nc_code.specs.Parts.{CodeParts, PlanParts}
use Rattle.nc_code.specs.Codes.{IsWitness, IsBare, no_plan}
use Rattle.nc_code.specs.Tries.{plan_len, from}
use Rattle.nc_nextloss.proofs.PlanLemmas.{plan_bare}
use Rattle.nc_search.specs.Tries.{IsFirstGoodTry}

-- the plans below a loss are what is asked of them, and the others are none
pub record ArePlans (IsPlanOf : ℕ → PlanParts → Type 0) (plans : List PlanParts) (end : ℕ) : Type 0 where
  pub count : length plans ≡ 10
  pub each : (j : ℕ) → j < end → IsPlanOf j (get_or plans j no_plan)
  pub past : (j : ℕ) → end ≤ j → get_or plans j no_plan ≡ no_plan

pub one_plan_more : (IsPlanOf : ℕ → PlanParts → Type 0) (plans : List PlanParts) (i : ℕ) (plan : PlanParts) → i < 10 → ArePlans IsPlanOf plans i → IsPlanOf i plan
    → ArePlans IsPlanOf (set plans i plan) (i + 1)
one_plan_more IsPlanOf plans i plan low are here = record {
  count = length-set plans i plan ∙ are.count;
  each = λ j below. elim (cases_lt j i) [
    | inl before ↦ subst (λ (p : PlanParts). IsPlanOf j p) (sym (get_or-set_other plans i j plan no_plan (omega arith))) (are.each j before)
    | inr at ↦
        let same : i ≡ j = omega arith in
        subst (λ (k : ℕ). IsPlanOf k (get_or (set plans i plan) k no_plan)) same
        (subst (λ (p : PlanParts). IsPlanOf i p) (sym (get_or-set_same plans i plan no_plan (omega (arith, are.count)))) here)
  ];
  past = λ j above. get_or-set_other plans i j plan no_plan (omega arith) ∙ are.past j (omega arith);
}

-- the first good try is a witness
pub first_witness_is : (code : CodeParts) (lost : ℕ) (base tries : List ℕ) (plan : PlanParts) → IsFirstGoodTry code lost base tries plan → IsWitness code lost plan
first_witness_is code lost base tries plan first =
    subst (λ (p : PlanParts). IsWitness code lost p) (sym first.plan_is) first.first.here

-- and says nothing of the lost cloud
pub first_bare : (code : CodeParts) (lost : ℕ) (base tries : List ℕ) (plan : PlanParts) → IsFirstGoodTry code lost base tries plan → IsBare code.width lost plan
first_bare code lost base tries plan first =
    subst (λ (p : PlanParts). IsBare code.width lost p) (sym first.plan_is)
    (plan_bare code.width lost (slice_index base) (from (first.index * plan_len code.width) (slice_index tries)))

-- a loop over all losses has filled them all
pub all_plans : (IsPlanOf : ℕ → PlanParts → Type 0) (plans : List PlanParts) (i n : ℕ) → n ≤ i → i ≤ n → ArePlans IsPlanOf plans i → ArePlans IsPlanOf plans n
all_plans IsPlanOf plans i n low high are =
    let same : i ≡ n = omega arith in
    subst (λ (k : ℕ). ArePlans IsPlanOf plans k) same are
