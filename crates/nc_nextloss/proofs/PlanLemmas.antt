-- Plans that are read from bytes, and tries that are read one after the other.
use Rattle.std.proofs.Common.{◌≡◌, ℕ, ◌+◌, ◌*◌, ◌<◌, ◌≤◌, List, [], ◌∷◌, get_or, map, slice_index, slice_index_or, refl, sym, ap, ◌∙◌, subst, arith, add-zero, true}
use Rattle.std.specs.List.{range_with_len}
use Rattle.std.proofs.lemmas.Bool.Decides.{nat_tests}
use Rattle.nc_code.specs.Parts.{CodeParts, PlanParts}
use Rattle.nc_code.specs.Codes.{IsBare, IsWitness, IsMds}
use Rattle.nc_code.specs.Tries.{is_bare, choice_at, coef_at, coefs_at, plan_at, plan_len, from, try_at}
use Rattle.nc_code.proofs.FilledRows.{get_or_each, get_or_zero}
use Rattle.nc_mds.specs.Verdicts.{IsVerdict, IsFails}
use Rattle.nc_mds.specs.declared.verdict.Verdict.{Verdict}
use Rattle.nc_mds.specs.declared.verdict.Verdict.TheVariants.{Mds, Fails}
use Rattle.nc_nextloss.specs.Firsts.{IsGoodTry}

-- ---- reading

choice_small : (n lost : ℕ) (base byte : ℕ → ℕ) (t : ℕ) → base t < 2 → choice_at n lost base byte t < 2
choice_small n lost base byte t h = grind (arith, nat_tests)

pub choices_small : (n lost : ℕ) (base byte : ℕ → ℕ) (choice : List ℕ) → ((t : ℕ) → base t < 2) → choice ≡ map (choice_at n lost base byte) (range_with_len 0 10) → (t : ℕ) → slice_index choice t < 2
choices_small n lost base byte choice h is t = rw is (get_or_each (λ (x : ℕ). x < 2) (choice_at n lost base byte) 10 t 0 (omega arith) (λ _. choice_small n lost base byte t (h t)))

bare_lost : (n lost t : ℕ) → t ≡ lost → is_bare n lost t ≡ true
bare_lost n lost t e = grind (arith, nat_tests)

bare_past : (n lost t : ℕ) → n ≤ t → is_bare n lost t ≡ true
bare_past n lost t h = grind (arith, nat_tests)

choice_bare : (n lost : ℕ) (base byte : ℕ → ℕ) (t : ℕ) → is_bare n lost t ≡ true → choice_at n lost base byte t ≡ 0
choice_bare n lost base byte t e = rw e

coef_bare : (n lost : ℕ) (byte : ℕ → ℕ) (r t : ℕ) → is_bare n lost t ≡ true → coef_at n lost byte r t ≡ 0
coef_bare n lost byte r t e = rw e

coefs_bare : (n lost : ℕ) (byte : ℕ → ℕ) (r t : ℕ) → is_bare n lost t ≡ true → slice_index (slice_index_or (map (coefs_at n lost byte) (range_with_len 0 2)) r []) t ≡ 0
coefs_bare n lost byte r t e =
    get_or_each (λ (x : List ℕ). slice_index x t ≡ 0) (coefs_at n lost byte) 2 r [] refl
    (λ _. get_or_zero (coef_at n lost byte r) 10 t (λ _. coef_bare n lost byte r t e))

-- a plan that is read says nothing of the lost cloud, nor past the width
pub plan_bare : (n lost : ℕ) (base byte : ℕ → ℕ) → IsBare n lost (plan_at n lost base byte)
unfolding plan_at
plan_bare n lost base byte = record {
  choice = get_or_zero (choice_at n lost base byte) 10 lost (λ _. choice_bare n lost base byte lost (bare_lost n lost lost refl));
  choice_past = λ t h. get_or_zero (choice_at n lost base byte) 10 t (λ _. choice_bare n lost base byte t (bare_past n lost t h));
  coefs = λ r. coefs_bare n lost byte r lost (bare_lost n lost lost refl);
  coefs_past = λ r t h. coefs_bare n lost byte r t (bare_past n lost t h);
}

abbrev pub plan_of_rows : List ℕ → List ℕ → List ℕ → PlanParts
plan_of_rows choice first second = record { choice = choice; coefs = first ∷ second ∷ [] }

pub plan_is : (n lost at : ℕ) (base : ℕ → ℕ) (bytes choice first second : List ℕ)
    → choice ≡ map (choice_at n lost base (λ _. slice_index bytes at)) (range_with_len 0 10)
    → first ≡ coefs_at n lost (from at (slice_index bytes)) 0 → second ≡ coefs_at n lost (from at (slice_index bytes)) 1
    → plan_of_rows choice first second ≡ plan_at n lost base (from at (slice_index bytes))
unfolding plan_at
plan_is n lost at base bytes choice first second is_choice is_first is_second =
    let head : slice_index bytes at ≡ slice_index bytes (at + 0) = ap (slice_index bytes) (sym (add-zero at)) in
    rw (is_choice, is_first, is_second)
    (ap (λ (b : ℕ). plan_of_rows (map (choice_at n lost base (λ _. b)) (range_with_len 0 10)) (coefs_at n lost (from at (slice_index bytes)) 0) (coefs_at n lost (from at (slice_index bytes)) 1)) head)

-- ---- tries

-- the plan that a turn reads is its try
pub tried_is : (code : CodeParts) (w each j lost : ℕ) (base byte : ℕ → ℕ) (plan : PlanParts) → w ≡ code.width → each ≡ plan_len w
    → plan ≡ plan_at w lost base (from (j * each) byte) → plan ≡ try_at code.width lost base byte j
tried_is code w each j lost base byte plan width len is =
    is
    ∙ ap (λ (k : ℕ). plan_at w lost base (from (j * k) byte)) len
    ∙ ap (λ (n : ℕ). plan_at n lost base (from (j * plan_len n) byte)) width

pub not_tried : (code : CodeParts) (w each j k lost : ℕ) (base byte : ℕ → ℕ) (plan : PlanParts) → w ≡ code.width → each ≡ plan_len w → j ≡ k
    → plan ≡ plan_at w lost base (from (j * each) byte) → (IsWitness code lost plan → ⊥) → IsGoodTry code lost base byte k → ⊥
not_tried code w each j k lost base byte plan width len same is refuse good =
    let tried : plan ≡ try_at code.width lost base byte k =
    tried_is code w each j lost base byte plan width len is ∙ ap (try_at code.width lost base byte) same in
    refuse (subst (λ (p : PlanParts). IsWitness code lost p) (sym tried) good)

-- ---- verdicts

pub fails_of : (code : CodeParts) (v : Verdict) → IsVerdict code v → (IsMds code → ⊥) → IsFails v
fails_of code Mds is refuse = refuse is
fails_of code (Fails a b kernel) is refuse = tt
