-- A repair candidate with its plans is good, and is what the search gives.
use Rattle.std.proofs.Common.{◌≡◌, ◌≢◌, ℕ, ◌*◌, List, refl, sym, ap, ◌∙◌, subst, arith, inl, inr, Option, Some, None, slice_index, zero-add}
use Rattle.std.proofs.lemmas.Bool.{cases_eq}
use Rattle.std.proofs.lemmas.Bool.Decides.{nat_tests}
use Rattle.nc_code.specs.Parts.{CodeParts, PlanParts, IsPlan}
use Rattle.nc_code.specs.Codes.{IsMds, IsBare, IsWitness, repaired}
use Rattle.nc_code.specs.Good.{IsGood, plan_of}
use Rattle.nc_code.specs.Tries.{plan_at, from}
use Rattle.nc_code.specs.declared.plan.Witnesses.{Witnesses}
use Rattle.nc_code.proofs.RepairLemmas.{repaired_width, repaired_twice}
use Rattle.nc_nextloss.specs.GoodCodes.{GoodParts}
use Rattle.nc_search.specs.Stream.{stream_part, word_count}
use Rattle.nc_search.specs.Tries.{IsFirstGoodTry}
use Rattle.nc_search.specs.Repairs.{repair_len, repair_block, repair_plan, repair_tries, turned_base, base_of, drawn_plan, IsGoodRepair, IsNextPlan, IsRepairOf}
use Rattle.nc_search.specs.Searches.{mend_plan, IsGoodMend}
use Rattle.nc_search.proofs.PlanLists.{ArePlans, first_witness_is, first_bare}
use Rattle.nc_search.proofs.StartLemmas.{good_parts, has_good}

-- what a body finds for the next loss is the plan that is meant
pub next_plan_is : (code : CodeParts) (lost : ℕ) (plan : PlanParts) (block : List ℕ) (next : ℕ) (found : PlanParts) (again : CodeParts) (base : List ℕ)
    → again ≡ repaired code lost plan → again.width ≡ code.width → base ≡ turned_base lost plan
    → (next ≡ lost → Some found ≡ Some plan)
    → (next ≢ lost → IsFirstGoodTry again next base (repair_tries again.width lost block next) found)
    → IsNextPlan code lost plan block next found
next_plan_is code lost plan block next found again base is width turned own drawn = record {
  own = λ e. let same : Some found ≡ Some plan = own e in cc;
  drawn = λ ne.
      subst (λ (x : CodeParts). IsFirstGoodTry x next (turned_base lost plan) (repair_tries code.width lost block next) found) is
      (subst (λ (w : ℕ). IsFirstGoodTry again next (turned_base lost plan) (repair_tries w lost block next) found) width
      (subst (λ (b : List ℕ). IsFirstGoodTry again next b (repair_tries again.width lost block next) found) turned (drawn ne)));
}

-- the plan of the repair is a witness of the lost cloud: repairing it again by the same plan changes nothing
own_witness : (code : CodeParts) (lost : ℕ) (plan found : PlanParts) → IsPlan plan → found ≡ plan → IsMds (repaired code lost plan) → IsWitness (repaired code lost plan) lost found
own_witness code lost plan found typed is mds = record {
  mds = subst (λ (p : PlanParts). IsMds (repaired (repaired code lost plan) lost p)) (sym is) (subst IsMds (sym (repaired_twice code lost plan typed)) mds);
}

next_witness : (code : CodeParts) (lost : ℕ) (plan : PlanParts) (block : List ℕ) (next : ℕ) (found : PlanParts) → IsPlan plan → IsMds (repaired code lost plan)
    → IsNextPlan code lost plan block next found → IsWitness (repaired code lost plan) next found
next_witness code lost plan block next found typed mds is = elim (cases_eq next lost) [
  | inl e ↦ subst (λ (k : ℕ). IsWitness (repaired code lost plan) k found) (sym e) (own_witness code lost plan found typed (is.own e) mds)
  | inr ne ↦ first_witness_is (repaired code lost plan) next (turned_base lost plan) (repair_tries code.width lost block next) found (is.drawn ne)
]

next_bare : (code : CodeParts) (lost : ℕ) (plan : PlanParts) (block : List ℕ) (next : ℕ) (found : PlanParts) → IsBare code.width lost plan
    → IsNextPlan code lost plan block next found → IsBare (repaired code lost plan).width next found
next_bare code lost plan block next found bare is = elim (cases_eq next lost) [
  | inl e ↦
      subst (λ (w : ℕ). IsBare w next found) (sym (repaired_width code lost plan))
      (subst (λ (k : ℕ). IsBare code.width k found) (sym e) (subst (λ (p : PlanParts). IsBare code.width lost p) (sym (is.own e)) bare))
  | inr ne ↦ first_bare (repaired code lost plan) next (turned_base lost plan) (repair_tries code.width lost block next) found (is.drawn ne)
]

pub repair_good : (code : CodeParts) (lost : ℕ) (plan : PlanParts) (block : List ℕ) (again : CodeParts) (w : Witnesses) → IsPlan plan → IsBare code.width lost plan
    → again ≡ repaired code lost plan → IsMds again → ArePlans (IsNextPlan code lost plan block) w.plans code.width → IsGood again w
repair_good code lost plan block again w typed bare is mds are =
    let width = repaired_width code lost plan in
    let made : IsMds (repaired code lost plan) = subst IsMds is mds in
    subst (λ (x : CodeParts). IsGood x w) (sym is) (record {
      mds = made;
      witness = λ next below. next_witness code lost plan block next (plan_of w next) typed made (are.each next (omega (arith, width)));
      bare = λ next below. next_bare code lost plan block next (plan_of w next) bare (are.each next (omega (arith, width)));
      past = λ next above. are.past next (omega (arith, width));
    })

pub repair_is : (code : CodeParts) (lost : ℕ) (plan : PlanParts) (block : List ℕ) (again : CodeParts) (w : Witnesses) → again ≡ repaired code lost plan → IsMds again
    → ArePlans (IsNextPlan code lost plan block) w.plans code.width → IsRepairOf code lost plan block (good_parts again w)
repair_is code lost plan block again w is mds are = record { mds = subst IsMds is mds; code_is = is; each = are.each; past = are.past }

pub is_good_repair : (code : CodeParts) (lost : ℕ) (plan : PlanParts) (block : List ℕ) (good : GoodParts) → IsRepairOf code lost plan block good → IsGoodRepair code lost plan block
is_good_repair code lost plan block good is = record {
  mds = is.mds;
  each = λ next below ne.
      has_good (repaired code lost plan) next (turned_base lost plan) (repair_tries code.width lost block next) (plan_of good.witnesses next) ((is.each next below).drawn ne);
}

-- ---- blocks and plans

pub repair_block_is : (n : ℕ) (key out : List ℕ) (i place words len front : ℕ) → out ≡ stream_part key (place * words) front → place ≡ i → words ≡ word_count len
    → front ≡ len → len ≡ repair_len n → out ≡ repair_block n key i
unfolding repair_block
repair_block_is n key out i place words len front is at count long size = rw (is, long, count, at, size) refl

-- the first plan of a block stands at its head
from_head : (n lost : ℕ) (base : List ℕ) (block : List ℕ) → plan_at n lost (slice_index base) (from 0 (slice_index block)) ≡ drawn_plan n lost base block
from_head n lost base block =
    let same : from 0 (slice_index block) ≡ slice_index block = λ j k. ap (slice_index block) (zero-add k) j in
    ap (plan_at n lost (slice_index base)) same

pub drawn_is : (n lost i : ℕ) (block : List ℕ) (plan : PlanParts) → plan ≡ plan_at n lost (slice_index (base_of None)) (from 0 (slice_index block)) → plan ≡ repair_plan n lost None i block
unfolding repair_plan
drawn_is n lost i block plan is = is ∙ from_head n lost (base_of None) block

pub redrawn_is : (n lost i : ℕ) (block : List ℕ) (plan stored : PlanParts) → i ≢ 0 → plan ≡ plan_at n lost (slice_index stored.choice) (from 0 (slice_index block))
    → plan ≡ repair_plan n lost (Some stored) i block
unfolding repair_plan
redrawn_is n lost i block plan stored ne is = grind (arith, nat_tests, is ∙ from_head n lost stored.choice block)

pub stored_is : (n lost i : ℕ) (block : List ℕ) (plan : PlanParts) → i ≡ 0 → plan ≡ repair_plan n lost (Some plan) i block
unfolding repair_plan
stored_is n lost i block plan e = rw e refl

-- ---- candidates

pub mend_plan_is : (code : CodeParts) (stored : Option PlanParts) (lost : ℕ) (key : List ℕ) (i w : ℕ) (block : List ℕ) (plan : PlanParts) → w ≡ code.width
    → block ≡ repair_block code.width key i → plan ≡ repair_plan w lost stored i block → plan ≡ mend_plan code stored lost key i
mend_plan_is code stored lost key i w block plan width drawn is =
    is ∙ ap (λ (n : ℕ). repair_plan n lost stored i block) width ∙ ap (λ (b : List ℕ). repair_plan code.width lost stored i b) drawn

pub no_mend : (code : CodeParts) (stored : Option PlanParts) (lost : ℕ) (key : List ℕ) (i : ℕ) (block : List ℕ) (plan : PlanParts) → block ≡ repair_block code.width key i
    → plan ≡ mend_plan code stored lost key i → (IsGoodRepair code lost plan block → ⊥) → IsGoodMend code stored lost key i → ⊥
no_mend code stored lost key i block plan drawn is refuse good =
    refuse (subst (λ (p : PlanParts). IsGoodRepair code lost p block) (sym is) (subst (λ (b : List ℕ). IsGoodRepair code lost (mend_plan code stored lost key i) b) (sym drawn) good))

pub good_mend : (code : CodeParts) (stored : Option PlanParts) (lost : ℕ) (key : List ℕ) (i : ℕ) (plan : PlanParts) (good : GoodParts) → plan ≡ mend_plan code stored lost key i
    → IsRepairOf code lost plan (repair_block code.width key i) good → IsGoodMend code stored lost key i
good_mend code stored lost key i plan good is gives =
    subst (λ (p : PlanParts). IsGoodRepair code lost p (repair_block code.width key i)) is (is_good_repair code lost plan (repair_block code.width key i) good gives)
