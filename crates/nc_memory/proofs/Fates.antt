-- What writes leave of objects that were refused or stopped.
use Rattle.std.proofs.Common.{◌≡◌, ℕ, Bool, true, false, ◌-◌, ◌≤◌, ◌+◌, if◌then◌else◌, ◌∙◌, Option, None, Some, List, [], length, take, drop, length-append, length-drop, refl, sym, ap, subst, arith}
use Rattle.std.specs.Option.{IfSome}
use Rattle.std.proofs.lemmas.Grind.{not_there}
use Rattle.std.proofs.lemmas.List.{take-append-drop}
use Rattle.nc_name.specs.declared.key.Key.{Key}
use Rattle.nc_frame.specs.Frames.{Whole, AreTorn as IsTornFrame}
use Rattle.nc_frame.proofs.FrameLaws.{proper_prefixes_are_torn}
use Rattle.nc_frame.proofs.Shapes.{length-frame}
use Rattle.nc_cloud.specs.Contents.{ChangesAt, Fate, Settles, Store, key_eq}
use Rattle.nc_cloud.specs.Contents.Fate.{stayed, became, went, broke}
use Rattle.nc_cloud.proofs.Keys.{key_eq-Decides}
use Rattle.nc_memory.specs.declared.record.Torn.{Torn}
use Rattle.nc_memory.specs.declared.record.Torn.TheVariants.{Old, New, Gone, Broken}
use Rattle.nc_memory.specs.Record.{broken, left}

whole_some : (bytes : List ℕ) → Whole bytes → 1 ≤ length bytes
whole_some bytes whole =
    let long : length bytes ≡ 48 + length whole.key + length whole.payload = ap length whole.is_sealed.is_frame ∙ length-frame whole.cloud whole.width whole.key whole.payload in
    omega (arith, long)

-- no bytes are torn
empty_is_torn : IsTornFrame []
empty_is_torn = record { none_whole = λ front rest e whole. absurd (omega (arith, whole_some front whole, ap length e, length-append front rest)) }

-- the bytes of a whole frame without the last one
front_is_torn : (bytes : List ℕ) → Whole bytes → IsTornFrame (take (length bytes - 1) bytes)
front_is_torn bytes whole =
    proper_prefixes_are_torn (take (length bytes - 1) bytes) (drop (length bytes - 1) bytes) bytes whole (take-append-drop (length bytes - 1) bytes)
    (λ e. let some : 1 ≤ length bytes = whole_some bytes whole in
    let none : length (drop (length bytes - 1) bytes) ≡ 0 = ap length e in
    absurd (omega (arith, length-drop (length bytes - 1) bytes, none)))

torn_then : (bytes : List ℕ) → ∥ Whole bytes ∥₁ → IsTornFrame (take (length bytes - 1) bytes)
torn_then bytes whole = record { none_whole = λ front rest e w. not_there whole (λ is. (front_is_torn bytes is).none_whole front rest e w) }

broken_fate : (new old : Option (List ℕ)) → ∥ IfSome new Whole ∥₁ → Fate old new (broken new old)
broken_fate (Some bytes) old whole = broke (torn_then bytes whole)
broken_fate None (Some bytes) whole = broke empty_is_torn
broken_fate None None whole = went refl

pub write_fate : (fate : Option Torn) (new old : Option (List ℕ)) → ∥ IfSome new Whole ∥₁ → Fate old new (left fate new old)
write_fate None new old whole = became refl
write_fate (Some Old) new old whole = stayed refl
write_fate (Some New) new old whole = became refl
write_fate (Some Gone) new old whole = went refl
write_fate (Some Broken) new old whole = broken_fate new old whole

-- a write that failed
pub failed_leaves : {key : Key} {old now : Store} (refused : Option Torn) (new : Option (List ℕ)) → IfSome new Whole → ChangesAt key (λ before after. after ≡ left refused new before) old now → ChangesAt key (Settles false new) old now
failed_leaves {key} {old} {now} refused new whole c = record { there = subst (Fate (old key) new) (sym c.there) (write_fate refused new (old key) ∣ whole ∣₁); others = c.others }

-- another key stays
pub stays : (b : Bool) (old new : Option (List ℕ)) → (b ≡ true → ⊥) → (if b then new else old) ≡ old
stays true old new not_so = absurd (not_so refl)
stays false old new not_so = refl

-- one object changes
pub one_changes : (key : Key) (change : Option (List ℕ) → Option (List ℕ) → Type 0) (f : Option (List ℕ) → Option (List ℕ)) (old : Store) → change (old key) (f (old key)) → ChangesAt key change old (λ q. if key_eq key q then f (old q) else old q)
one_changes key change f old is = record {
  there =
      let same : key_eq key key ≡ true = (key_eq-Decides key key).1 refl in
      subst (λ b. change (old key) (if b then f (old key) else old key)) (sym same) is;
  others = λ q other. stays (key_eq key q) (old q) (f (old q)) (λ e. other (sym ((key_eq-Decides key q).0 e)));
}
