-- Which clouds a restore makes whole, how many chunks it can write, and what it finds on the other clouds.
use Rattle.std.proofs.Common.{◌≡◌, ◌<◌, ◌≤◌, ◌+◌, ◌-◌, ◌==◌, ◌&&◌, ◌||◌, ℕ, zero, suc, Bool, true, false, not, if◌then◌else◌, Option, None, Some, List, Contains, All, Result, IfOk, length, option_to_list, refl, sym, ap, ◌∙◌, subst, arith}
use Rattle.std.proofs.lemmas.Bool.{eqb-true}
use Rattle.std.proofs.lemmas.List.{length-append}
use Rattle.std.proofs.lemmas.List.Elements.{All-contains}
use Rattle.nc_name.specs.Counts.{Rose}
use Rattle.nc_meta.specs.declared.meta.Live.{Live}
use Rattle.nc_cloud.specs.Rounds.{some_row}
use Rattle.nc_cloud.specs.declared.fleet.Fleet.{Ghosts as FleetGhosts}
use Rattle.nc_cloud.proofs.SomeRows.{some_more}
use Rattle.nc_state.specs.Clouds.{Clouds, count_of}
use Rattle.nc_download.specs.declared.short.Bad.{Bad}
use Rattle.nc_download.specs.declared.short.Why.{Why}
use Rattle.nc_download.specs.declared.short.Why.TheVariants.{Failed}
use Rattle.nc_download.proofs.ViewLaws.{fewer}
use Rattle.nc_fetch.specs.Trying.{Outcome}
use Rattle.nc_fetch.specs.Whys.{bad_with, free, free_at, is_fine, why_at}
use Rattle.nc_fetch.proofs.BatchLaws.{one_length}
use Rattle.nc_fetch.proofs.SomeLists.{some_all_of}
use Rattle.nc_restore.specs.declared.fault.RestoreFault.{RestoreFault}
use Rattle.nc_restore.specs.Asking.{is_restored}
use Rattle.nc_restore.specs.Restoring.{AreJudged, RestoreDid, TooFewOutside, bad_count, bads_outside, untried, why_outside}
use Rattle.nc_restore.proofs.DoneLaws.{did_ok}
use Rattle.nc_words.specs.declared.act.Act.TheVariants as act
use Rattle.nc_words.specs.Acts.{heals}
use Rattle.nc_vault.specs.Counting.{HaveFailed}
use Rattle.nc_vault.specs.Saying.{good_outside}

-- ---- the clouds that it makes whole

pub heals_restored : (first : ℕ) (second : Option ℕ) → is_restored first second ≡ heals (act.Restore first second)
heals_restored first None = refl
heals_restored first (Some second) = refl

-- ---- it makes at most two whole

none_step : (b : Bool) (k : ℕ) → (b ≡ true → ⊥) → k ≡ 0 → (if b then 1 else 0) + k ≡ 0
none_step true k none rest = absurd (none refl)
none_step false k none rest = omega (arith, rest)

none_counted : (n : ℕ) (D : Clouds) → ((c : ℕ) → c < n → D c ≡ true → ⊥) → count_of n D ≡ 0
none_counted zero D none = refl
none_counted (suc n) D none = none_step (D n) (count_of n D) (none n (omega arith)) (none_counted n D (λ c l. none c (omega (arith, l))))

one_step : (b : Bool) (k : ℕ) → (b ≡ true → k ≡ 0) → k ≤ 1 → (if b then 1 else 0) + k ≤ 1
one_step true k none few = let e : k ≡ 0 = none refl in omega (arith, e)
one_step false k none few = omega (arith, few)

one_counted : (n a : ℕ) → count_of n (is_restored a None) ≤ 1
one_counted zero a = omega arith
one_counted (suc n) a =
    one_step (n == a) (count_of n (is_restored a None))
    (λ here. none_counted n (is_restored a None) (λ c l there. let x : n ≡ a = eqb-true n a here in let y : c ≡ a = eqb-true c a there in omega (arith, l, x, y))) (one_counted n a)

both_step : (a b : Bool) (x y z : ℕ) → z ≤ x + y → (if a || b then 1 else 0) + z ≤ ((if a then 1 else 0) + x) + ((if b then 1 else 0) + y)
both_step true true x y z few = omega (arith, few)
both_step true false x y z few = omega (arith, few)
both_step false true x y z few = omega (arith, few)
both_step false false x y z few = omega (arith, few)

both_counted : (n a b : ℕ) → count_of n (is_restored a (Some b)) ≤ count_of n (is_restored a None) + count_of n (is_restored b None)
both_counted zero a b = omega arith
both_counted (suc n) a b =
    both_step (n == a) (n == b) (count_of n (is_restored a None)) (count_of n (is_restored b None)) (count_of n (is_restored a (Some b))) (both_counted n a b)

two_counted : (n first : ℕ) (second : Option ℕ) → count_of n (is_restored first second) ≤ 2
two_counted n first None = let one : count_of n (is_restored first None) ≤ 1 = one_counted n first in omega (arith, one)
two_counted n first (Some second) =
    let one : count_of n (is_restored first None) ≤ 1 = one_counted n first in
    let other : count_of n (is_restored second None) ≤ 1 = one_counted n second in
    let both : count_of n (is_restored first (Some second)) ≤ count_of n (is_restored first None) + count_of n (is_restored second None) = both_counted n first second in
    omega (arith, one, other, both)

-- ---- and writes at most two chunks on each

module _ {A : Type 0} (F : FleetGhosts A) (name : List ℕ) (m : Live) (first : ℕ) (second : Option ℕ) (old new : A) where
  bad_few : {mid : A} (bad : ℕ → Clouds) → AreJudged F name m (is_restored first second) old mid bad → bad_count (F.clouds old) bad ≤ 4
  bad_few bad judged =
      let most : count_of (F.clouds old) (is_restored first second) ≤ 2 = two_counted (F.clouds old) first second in
      let zeros : count_of (F.clouds old) (bad 0) ≤ count_of (F.clouds old) (is_restored first second) =
      fewer (F.clouds old) (bad 0) (is_restored first second) (λ c l is. (judged.only c 0 (omega arith) is).1) in
      let ones : count_of (F.clouds old) (bad 1) ≤ count_of (F.clouds old) (is_restored first second) =
      fewer (F.clouds old) (bad 1) (is_restored first second) (λ c l is. (judged.only c 1 (omega arith) is).1) in
      omega (arith, most, zeros, ones)

  pub restored_few : (result : Result ℕ RestoreFault) → RestoreDid F name m (is_restored first second) old new result → IfOk result (λ count. count ≤ 4)
  restored_few result = did_ok F name m (is_restored first second) old new (λ count. count ≤ 4) result (λ bad judged none. omega arith) (λ bad made. bad_few bad made.looked.judged)

-- ---- which of the other clouds are good

free_step : (w : Option Why) (e : Bool) (x y : ℕ) → (e ≡ true → is_fine w ≡ true) → x ≤ y → (if e then 1 else 0) + x ≤ y + (if is_fine w then 1 else 0)
free_step None true x y fine few = omega (arith, few)
free_step None false x y fine few = omega (arith, few)
free_step (Some why) true x y fine few = let e : false ≡ true = fine refl in absurd cc
free_step (Some why) false x y fine few = omega (arith, few)

-- of the first k clouds no more are of E than were found good, where all of E were
free_reach : (whys : List (Option Why)) (E : Clouds) (k : ℕ) → ((c : ℕ) → E c ≡ true → is_fine (why_at whys c) ≡ true) → count_of k E ≤ length (some_row (free_at whys) 0 k)
free_reach whys E zero fine = omega arith
free_reach whys E (suc k) fine =
    let next : suc k ≡ k + 1 = omega arith in
    let more : length (some_row (free_at whys) 0 (k + 1)) ≡ length (some_row (free_at whys) 0 k) + (if is_fine (why_at whys k) then 1 else 0) =
    ap length (some_more (free_at whys) k) ∙ length-append (some_row (free_at whys) 0 k) (option_to_list (free_at whys k))
    ∙ ap (λ j. length (some_row (free_at whys) 0 k) + j) (one_length k (is_fine (why_at whys k))) in
    let step = free_step (why_at whys k) (E k) (count_of k E) (length (some_row (free_at whys) 0 k)) (fine k) (free_reach whys E k fine) in
    subst (λ j. count_of (suc k) E ≤ length (some_row (free_at whys) 0 j)) (sym next) (omega (arith, more, step))

fine_of : (p b : Bool) → (not p && b) ≡ true → b ≡ true
fine_of p true is = refl
fine_of true false is = absurd cc
fine_of false false is = absurd cc

pub few_good : (n : ℕ) (P : Clouds) (whys : List (Option Why)) → length (free whys 0 n) + 2 < n → count_of n (good_outside P whys) + 2 < n
few_good n P whys few =
    let whole : n - 0 ≡ n = omega arith in
    let all : length (free whys 0 n) ≡ length (some_row (free_at whys) 0 n) = ap (λ k. length (some_row (free_at whys) 0 k)) whole in
    let reach : count_of n (good_outside P whys) ≤ length (some_row (free_at whys) 0 n) = free_reach whys (good_outside P whys) n (λ c is. fine_of (P c) (is_fine (why_at whys c)) is) in
    omega (arith, few, all, reach)

-- ---- which aren't

-- cloud c with this cause
abbrev bad_of : ℕ → Why → Bad
bad_of c why = record { cloud = c; why = why }

-- the listed cloud is none of P, and was found bad for this cause
record IsListed (n : ℕ) (P : Clouds) (whys : List (Option Why)) (b : Bad) : Type 0 where
  within : b.cloud < n
  outside : P b.cloud ≡ false
  is : why_at whys b.cloud ≡ Some b.why

listed_by : (n : ℕ) (P : Clouds) (whys : List (Option Why)) (c : ℕ) (b : Bad) → c < n → (p : Bool) → P c ≡ p → (w : Option Why) → why_at whys c ≡ w → bad_with c (if p then None else w) ≡ Some b → IsListed n P whys b
listed_by n P whys c b l true out w is e = absurd cc
listed_by n P whys c b l false out None is e = absurd cc
listed_by n P whys c b l false out (Some why) is e =
    let same : bad_of c why ≡ b = cc in
    subst (IsListed n P whys) same (record { within = l; outside = out; is = is })

all_listed : (n : ℕ) (P : Clouds) (whys : List (Option Why)) → All (IsListed n P whys) (bads_outside P whys n)
all_listed n P whys =
    some_all_of (IsListed n P whys) (λ c. bad_with c (why_outside P whys c)) 0 n
    (λ c b low high e. listed_by n P whys c b (omega (arith, high)) (P c) refl (why_at whys c) refl e)

-- ---- clouds outside P were tried, and too few are good

module _ {A : Type 0} (F : FleetGhosts A) (name : List ℕ) (m : Live) (P : Clouds) (mid new : A) (list : List Bad) (few : TooFewOutside F name m mid new P list) where
  -- what was found of one of them
  pub outcome_outside : (c : ℕ) → c < F.clouds mid → P c ≡ false → Outcome F name m mid new c (why_at few.whys c)
  outcome_outside c l out = few.tried.tried c l (record { from = omega arith; below = l; fine = few.marked.each c l ∙ ap (λ (b : Bool). if b then Some untried else None) out })

  failed_by : (b : Bad) → IsListed (F.clouds mid) P few.whys b → b.why ≡ Failed → Rose (F.faults mid b.cloud) (F.faults new b.cloud)
  failed_by b at failed =
      (subst (Outcome F name m mid new b.cloud) (at.is ∙ ap (λ (w : Why). Some w) failed) (outcome_outside b.cloud at.within at.outside)).0

  -- those that are listed as failed ones did
  pub have_failed : HaveFailed list (F.faults mid) (F.faults new)
  have_failed = record {
    each = λ b among failed.
        failed_by b (All-contains (IsListed (F.clouds mid) P few.whys) (bads_outside P few.whys (F.clouds mid)) b (all_listed (F.clouds mid) P few.whys) (subst (λ (bs : List Bad). Contains bs b) few.listed among)) failed;
  }
