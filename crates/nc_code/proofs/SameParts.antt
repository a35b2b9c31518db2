-- Two codes, or two lists of plans, are equal exactly where their parts are.
use Rattle.std.proofs.Common.{◌≡◌, ◌<◌, ℕ, Bool, List, length, eqb, refl, sym, ap, subst, ◌∙◌, arith}
use Rattle.std.specs.Bool.{Decides}
use Rattle.std.specs.Cmp.Lexicographic.{pointwise}
use Rattle.std.proofs.lemmas.Bool.Decides.{Decides-like, Decides-eqb}
use Rattle.std.proofs.lemmas.List.{ext_get_or}
use Rattle.std.proofs.lemmas.Slice.Eq.{slice_eq-Decides}
use Rattle.nc_code.specs.Parts.{CodeParts, PlanParts}
use Rattle.nc_code.specs.Codes.{no_plan}
use Rattle.nc_code.specs.Good.{plan_of}
use Rattle.nc_code.specs.declared.plan.Witnesses.{Witnesses}

abbrev pub code_of : ℕ → List (List ℕ) → CodeParts
code_of w p = record { width = w; rows = p }

same_parts : (w v : ℕ) (p q : List (List ℕ)) → w ≡ v → p ≡ q → code_of w p ≡ code_of v q
same_parts w v p q same_width same_rows =
    subst (λ (x : ℕ). code_of w p ≡ code_of x q) same_width (ap (code_of w) same_rows)

pub rows_decide : (w v : ℕ) (p q : List (List ℕ)) (a b : CodeParts) (r : Bool) → code_of w p ≡ a → code_of v q ≡ b → w ≡ v → r ≡ pointwise (pointwise eqb) p q → Decides r (a ≡ b)
rows_decide w v p q a b r is_a is_b same_width is =
    Decides-like r (λ e. sym is_a ∙ same_parts w v p q same_width e ∙ is_b) (λ e. ap (λ (c : CodeParts). c.rows) (is_a ∙ e ∙ sym is_b)) (slice_eq-Decides (λ x y. slice_eq-Decides Decides-eqb x y _ refl) p q r is)

abbrev plans_of : List PlanParts → Witnesses
plans_of ps = record { plans = ps }

-- witnesses with the same plan for each loss
pub same_plans : (w v : Witnesses) → length w.plans ≡ 10 → length v.plans ≡ 10 → ((k : ℕ) → k < 10 → plan_of w k ≡ plan_of v k) → w ≡ v
same_plans w v w_long v_long each =
    let plans : w.plans ≡ v.plans = ext_get_or no_plan w.plans v.plans (w_long ∙ sym v_long) (λ i l. each i (omega (arith, w_long))) in
    ap (λ (ps : List PlanParts). plans_of ps) plans
