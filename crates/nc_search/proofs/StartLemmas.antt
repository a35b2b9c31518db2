-- A start candidate with its first good tries is good, and is what the search gives.
use Rattle.std.proofs.Common.{◌≡◌, ℕ, ◌+◌, ◌*◌, ◌<◌, ◌≤◌, List, length, refl, sym, ap, ◌∙◌, subst, arith}
use Rattle.nc_code.specs.Parts.{CodeParts, PlanParts}
use Rattle.nc_code.specs.Codes.{IsMds}
use Rattle.nc_code.specs.Good.{IsGood, plan_of}
use Rattle.nc_code.specs.declared.plan.Witnesses.{Witnesses}
use Rattle.nc_nextloss.specs.GoodCodes.{GoodParts}
use Rattle.nc_search.specs.Tries.{tries_len, tries_at, HasGoodTry, IsFirstGoodTry, no_base}
use Rattle.nc_search.specs.Stream.{stream_part, word_count}
use Rattle.nc_search.specs.Starts.{rows_len, start_len, start_block, start_code, start_tries, IsStartPlan, IsGoodStart, IsStartOf}
use Rattle.nc_search.proofs.TryLemmas.{tries_within}
use Rattle.nc_search.proofs.PlanLists.{ArePlans, first_witness_is, first_bare}

pub start_width : (n : ℕ) (block : List ℕ) → (start_code n block).width ≡ n
unfolding start_code
start_width n block = refl

-- where a body's code and place are those of the candidate
pub start_plan_is : (n lost at : ℕ) (block : List ℕ) (code : CodeParts) (plan : PlanParts) → code ≡ start_code n block → at ≡ rows_len n + lost * tries_len n
    → IsFirstGoodTry code lost no_base (tries_at code.width block at) plan → IsStartPlan n block lost plan
start_plan_is n lost at block code plan is place first =
    let width : code.width ≡ n = ap (λ (x : CodeParts). x.width) is ∙ start_width n block in
    subst (λ (x : CodeParts). IsFirstGoodTry x lost no_base (start_tries n block lost) plan) is
    (subst (λ (k : ℕ). IsFirstGoodTry code lost no_base (tries_at n block k) plan) place
    (subst (λ (w : ℕ). IsFirstGoodTry code lost no_base (tries_at w block at) plan) width first))

pub no_start : (n lost at : ℕ) (block : List ℕ) (code : CodeParts) → code ≡ start_code n block → at ≡ rows_len n + lost * tries_len n → lost < n
    → (HasGoodTry code lost no_base (tries_at code.width block at) → ⊥) → IsGoodStart n block → ⊥
no_start n lost at block code is place below refuse good =
    let width : n ≡ code.width = sym (ap (λ (x : CodeParts). x.width) is ∙ start_width n block) in
    refuse
    (subst (λ (w : ℕ). HasGoodTry code lost no_base (tries_at w block at)) width
    (subst (λ (k : ℕ). HasGoodTry code lost no_base (tries_at n block k)) (sym place)
    (subst (λ (x : CodeParts). HasGoodTry x lost no_base (start_tries n block lost)) (sym is) (good.each lost below))))

pub start_good : (n : ℕ) (block : List ℕ) (code : CodeParts) (w : Witnesses) → code ≡ start_code n block → IsMds code → ArePlans (IsStartPlan n block) w.plans n → IsGood code w
start_good n block code w is mds are =
    let width = start_width n block in
    subst (λ (x : CodeParts). IsGood x w) (sym is) (record {
      mds = subst IsMds is mds;
      witness = λ lost below. first_witness_is (start_code n block) lost no_base (start_tries n block lost) (plan_of w lost) (are.each lost (omega (arith, width)));
      bare = λ lost below. first_bare (start_code n block) lost no_base (start_tries n block lost) (plan_of w lost) (are.each lost (omega (arith, width)));
      past = λ lost above. are.past lost (omega (arith, width));
    })

abbrev pub good_parts : CodeParts → Witnesses → GoodParts
good_parts code w = record { code = code; witnesses = w }

pub start_is : (n : ℕ) (block : List ℕ) (code : CodeParts) (w : Witnesses) → code ≡ start_code n block → IsMds code → ArePlans (IsStartPlan n block) w.plans n → IsStartOf n block (good_parts code w)
start_is n block code w is mds are = record { mds = subst IsMds is mds; code = is; each = are.each; past = are.past }

-- a first good try is a good try
pub has_good : (code : CodeParts) (lost : ℕ) (base tries : List ℕ) (plan : PlanParts) → IsFirstGoodTry code lost base tries plan → HasGoodTry code lost base tries
has_good code lost base tries plan first = record { index = first.index; below = first.first.below; good = first.first.here }

pub is_good : (n : ℕ) (block : List ℕ) (good : GoodParts) → IsStartOf n block good → IsGoodStart n block
is_good n block good is = record {
  mds = is.mds;
  each = λ lost below. has_good (start_code n block) lost no_base (start_tries n block lost) (plan_of good.witnesses lost) (is.each lost below);
}

pub start_block_is : (n : ℕ) (key out : List ℕ) (i place words len front : ℕ) → out ≡ stream_part key (place * words) front → place ≡ i → words ≡ word_count len
    → front ≡ len → len ≡ start_len n → out ≡ start_block n key i
unfolding start_block
start_block_is n key out i place words len front is at count long size = rw (is, long, count, at, size) refl

-- where the tries for a loss stand
pub place_is : (n lost rows each : ℕ) → rows ≡ rows_len n → each ≡ tries_len n → rows + lost * each ≡ rows_len n + lost * tries_len n
place_is n lost rows each is_rows is_each = rw (is_rows, is_each) refl

pub place_within : (n w lost rows each : ℕ) (block : List ℕ) → rows ≡ rows_len n → each ≡ tries_len n → w ≡ n → lost < n → length block ≡ start_len n
    → rows + lost * each + tries_len w ≤ length block
place_within n w lost rows each block is_rows is_each width below long =
    rw (is_rows, is_each, width, long) (omega (arith, tries_within lost n (tries_len n) below))
