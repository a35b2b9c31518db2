-- How many tries a part of a block holds.
use Rattle.std.proofs.Common.{◌≡◌, ℕ, suc, ◌+◌, ◌*◌, ◌/◌, ◌%◌, ◌<◌, ◌≤◌, List, length, ap, ◌∙◌, subst, arith, slice_index, Option}
use Rattle.std.specs.Option.{IfSome}
use Rattle.std.proofs.Math.Nat.{mul-div_cancel, mul-mod_left, mul-le-mul_right, suc-mul}
use Rattle.nc_code.specs.Parts.{CodeParts, PlanParts}
use Rattle.nc_code.specs.Tries.{plan_len}
use Rattle.nc_nextloss.specs.Firsts.{IsFirstWitness, IsGoodTry}
use Rattle.nc_search.specs.Tries.{tries_len, HasGoodTry}

pub whole_tries : (n k : ℕ) → k ≡ tries_len n → k % plan_len n ≡ 0
whole_tries n k is = ap (λ (j : ℕ). j % plan_len n) is ∙ mul-mod_left 16 (plan_len n)

sixteen : (n k : ℕ) → k ≡ tries_len n → k / plan_len n ≡ 16
sixteen n k is = ap (λ (j : ℕ). j / plan_len n) is ∙ mul-div_cancel 16 (omega arith)

pub first_of_sixteen : (code : CodeParts) (lost : ℕ) (base : ℕ → ℕ) (tries : List ℕ) (found : Option PlanParts) → length tries ≡ tries_len code.width
    → IfSome found (IsFirstWitness code lost base (slice_index tries) (length tries / plan_len code.width))
    → IfSome found (IsFirstWitness code lost base (slice_index tries) 16)
first_of_sixteen code lost base tries found long first =
    subst (λ (m : ℕ). IfSome found (IsFirstWitness code lost base (slice_index tries) m)) (sixteen code.width (length tries) long) first

pub none_of_sixteen : (code : CodeParts) (lost : ℕ) (base tries : List ℕ) → length tries ≡ tries_len code.width
    → ((j : ℕ) → j < length tries / plan_len code.width → IsGoodTry code lost (slice_index base) (slice_index tries) j → ⊥)
    → HasGoodTry code lost base tries → ⊥
none_of_sixteen code lost base tries long refuse has =
    refuse has.index (omega (arith, has.below, sixteen code.width (length tries) long)) has.good

-- the tries for a loss end before those for the next one
pub tries_within : (i n each : ℕ) → i < n → i * each + each ≤ n * each
tries_within i n each below =
    let more : suc i * each ≤ n * each = mul-le-mul_right each (omega arith) in
    omega (arith, suc-mul i each, more)
