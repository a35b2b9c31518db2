-- The clouds that failed in a view, counted.
use Rattle.std.proofs.Common.{ℕ, zero, suc, ◌≡◌, ◌+◌, ◌<◌, ◌≤◌, ◌||◌, ◌↔◌, Bool, true, false, IsTrue, Option, None, Some, IfSome, IfNone, List, length, set, length-set, if◌then◌else◌, inl, inr, sym, ap, ◌∙◌, subst, refl, arith}
use Rattle.std.proofs.lemmas.Bool.{cases_Bool, cases_lt}
use Rattle.std.proofs.lemmas.List.{get_or-set_other, get_or-set_same}
use mir.Val.{bool_byte}
use Rattle.nc_state.specs.Clouds.{Clouds, count_of}
use Rattle.nc_state.proofs.CloudSets.{or_true}
use Rattle.nc_settle.specs.declared.place.Place.{Place}
use Rattle.nc_settle.specs.declared.place.Place.TheVariants.{Absent, Broken, Misplaced, Failed, Sealed}
use Rattle.nc_settle.specs.Views.{Places, place_at, width_of}
use Rattle.nc_settle.specs.Decisions.{HasFailed, IsLeastFailed, NoneFailed}
use Rattle.nc_settle.specs.MetaWrites.{named}
use Rattle.nc_settle.specs.Failing.{fails, is_failed_place, FewFail, NamesFailing, TooManyFail}

or_first : (a b : Bool) → a ≡ true → (a || b) ≡ true
or_first true b e = refl
or_first false b e = absurd cc

or_second : (a b : Bool) → b ≡ true → (a || b) ≡ true
or_second true b e = refl
or_second false b e = e

failed_place : (p : Place) → is_failed_place p ≡ true → p ≡ Failed
failed_place Absent e = absurd cc
failed_place Broken e = absurd cc
failed_place (Misplaced a b) e = absurd cc
failed_place Failed e = refl
failed_place (Sealed m) e = absurd cc

-- a place that failed
pub failed_at : (v : Places) (c slot : ℕ) → slot < 2 → place_at v c slot ≡ Failed → fails v c ≡ true
failed_at v c zero low e = or_first _ _ (ap is_failed_place e)
failed_at v c (suc zero) low e = or_second _ _ (ap is_failed_place e)
failed_at v c (suc (suc slot)) low e = absurd (omega arith)

pub failing_is : (v : Places) (c : ℕ) → HasFailed v c → fails v c ≡ true
failing_is v c has = failed_at v c has.slot has.in_pair has.failed

pub failing_has : (v : Places) (c : ℕ) → fails v c ≡ true → HasFailed v c
failing_has v c e = elim (cases_Bool (is_failed_place (place_at v c 0))) [
  | inl first ↦ record { slot = 0; in_pair = omega arith; failed = failed_place (place_at v c 0) first }
  | inr other ↦ record { slot = 1; in_pair = omega arith; failed = failed_place (place_at v c 1) (or_true _ _ e other) }
]

-- the test of a cloud
pub same_test : (v : Places) (c : ℕ) (b : Bool) → (IsTrue b ↔ HasFailed v c) → fails v c ≡ b
same_test v c true is = failing_is v c (is.0 refl)
same_test v c false is = elim (cases_Bool (fails v c)) [
  | inl failed ↦ let e : false ≡ true = is.1 (failing_has v c failed) in absurd cc
  | inr fine ↦ fine
]

-- one cloud more
pub count_more : (D : Clouds) (k : ℕ) (b : Bool) → D k ≡ b → count_of (k + 1) D ≡ count_of k D + (if b then 1 else 0)
count_more D k b is =
    let next : k + 1 ≡ suc k = omega arith in
    ap (λ m. count_of m D) next ∙ ap (λ (t : Bool). (if t then 1 else 0) + count_of k D) is ∙ omega arith

one_at_most : (b : Bool) → (if b then 1 else 0) ≤ 1
one_at_most true = omega arith
one_at_most false = omega arith

one_if : (b : Bool) → bool_byte b ≡ (if b then 1 else 0)
one_if true = refl
one_if false = refl

none_counted : (D : Clouds) (n : ℕ) → ((c : ℕ) → c < n → D c ≡ false) → count_of n D ≡ 0
none_counted D zero none = refl
none_counted D (suc n) none =
    let rest : count_of n D ≡ 0 = none_counted D n (λ c l. none c (omega (arith, l))) in
    ap (λ (b : Bool). (if b then 1 else 0) + count_of n D) (none n (omega arith)) ∙ omega (arith, rest)

-- where no place failed, no cloud is counted
pub none_failing : (v : Places) (n : ℕ) → ((c : ℕ) → c < n → HasFailed v c → ⊥) → count_of n (fails v) ≡ 0
none_failing v n none = none_counted (fails v) n (λ c l. elim (cases_Bool (fails v c)) [
  | inl failed ↦ absurd (none c l (failing_has v c failed))
  | inr fine ↦ fine
])

pub failing_more : (v : Places) (k : ℕ) (table : List Bool) (b : Bool) → NamesFailing v k table → k < 10 → fails v k ≡ b → NamesFailing v (k + 1) (set table k b)
failing_more v k table b names low is =
    let within : k < length table = omega (arith, names.long) in
    record {
      long = length-set table k b ∙ names.long;
      each = λ c l.
          elim (cases_lt c k) [
            | inl before ↦ get_or-set_other table k c b false (λ e. absurd (omega arith)) ∙ names.each c before
            | inr after ↦ let here : k ≡ c = omega arith in subst (λ (d : ℕ). named (set table k b) d ≡ fails v d) here (get_or-set_same table k b false within ∙ sym is)
          ];
    }

-- the count, once cloud k is looked at too
pub counted_more : (v : Places) (k count byte : ℕ) (b : Bool) → (IsTrue b ↔ HasFailed v k) → byte ≡ bool_byte b → (count ≡ count_of k (fails v)) × (count ≤ k)
    → (count + byte ≡ count_of (k + 1) (fails v)) × (count + byte ≤ k + 1)
counted_more v k count byte b is byte_is so_far =
    let more : count_of (k + 1) (fails v) ≡ count_of k (fails v) + (if b then 1 else 0) = count_more (fails v) k b (same_test v k b is) in
    let same : bool_byte b ≡ (if b then 1 else 0) = one_if b in
    let fits : (if b then 1 else 0) ≤ 1 = one_at_most b in
    (omega (arith, more, byte_is, same, so_far.0), omega (arith, byte_is, same, fits, so_far.1))

pub too_many : (v : Places) (least : Option ℕ) → 2 < count_of (width_of v) (fails v) → IfSome least (IsLeastFailed v) → IfSome least (TooManyFail v)
too_many v None many is = tt
too_many v (Some c) many is = record { many = omega (arith, many); least = is }

pub few_fail : (v : Places) (least : Option ℕ) → IfNone least (NoneFailed v) → IfNone least (FewFail v)
few_fail v None none = omega (arith, none_failing v (width_of v) none)
few_fail v (Some c) none = tt
