-- The clouds that a table names, counted.
use Rattle.std.proofs.Common.{◌≡◌, ◌<◌, ◌≤◌, ◌+◌, ℕ, zero, suc, Bool, true, false, if◌then◌else◌, Option, None, Some, IfSome, IfNone, List, inl, inr, refl, ap, ◌∙◌, arith}
use Rattle.std.proofs.lemmas.Bool.{cases_lt}
use mir.Val.{bool_byte}
use Rattle.nc_names.specs.Listing.{IsFirstMarked, named}
use Rattle.nc_state.specs.Clouds.{Clouds, count_of}
use Rattle.nc_settle.proofs.Failures.{count_more}
use Rattle.nc_vault.specs.Listing.{IsLeastOfThree}

byte_is : (b : Bool) → bool_byte b ≡ (if b then 1 else 0)
byte_is true = refl
byte_is false = refl

one_at_most : (b : Bool) → (if b then 1 else 0) ≤ 1
one_at_most true = omega arith
one_at_most false = omega arith

-- the count, once cloud k is looked at too
pub counted_more : (X : Clouds) (k count byte : ℕ) (b : Bool) → X k ≡ b → byte ≡ bool_byte b → (count ≡ count_of k X) × (count ≤ k) → (count + byte ≡ count_of (k + 1) X) × (count + byte ≤ k + 1)
counted_more X k count byte b is made so_far =
    let more : count_of (k + 1) X ≡ count_of k X + (if b then 1 else 0) = count_more X k b is in
    let same : bool_byte b ≡ (if b then 1 else 0) = byte_is b in
    let fits : (if b then 1 else 0) ≤ 1 = one_at_most b in
    (omega (arith, more, made, same, so_far.0), omega (arith, made, same, fits, so_far.1))

none_counted : (n : ℕ) (X : Clouds) → ((c : ℕ) → c < n → X c ≡ false) → count_of n X ≡ 0
none_counted zero X none = refl
none_counted (suc n) X none =
    let rest : count_of n X ≡ 0 = none_counted n X (λ c l. none c (omega (arith, l))) in
    ap (λ (b : Bool). (if b then 1 else 0) + count_of n X) (none n (omega arith)) ∙ omega (arith, rest)

pub least_of : (n : ℕ) (table : List Bool) (least : Option ℕ) → 2 < count_of n (named table) → IfSome least (IsFirstMarked table) → IfSome least (IsLeastOfThree n (named table))
least_of n table None many first = tt
least_of n table (Some c) many first = record {
  in_width =
      elim (cases_lt c n) [
        | inl low ↦ low
        | inr past ↦
            let none : count_of n (named table) ≡ 0 = none_counted n (named table) (λ d l. first.before d (omega (arith, l, past))) in
            absurd (omega (arith, none, many))
      ];
  one = first.here;
  three = omega (arith, many);
  before = first.before;
}

pub few_of : (n : ℕ) (table : List Bool) (least : Option ℕ) → IfNone least ((c : ℕ) → named table c ≡ false) → IfNone least (count_of n (named table) ≤ 2)
few_of n table None none = let counted : count_of n (named table) ≡ 0 = none_counted n (named table) (λ c l. none c) in omega (arith, counted)
few_of n table (Some c) none = tt
