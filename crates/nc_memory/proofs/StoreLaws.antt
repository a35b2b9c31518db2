-- The objects of a memory cloud after a change.
use Rattle.std.proofs.Common.{◌≡◌, ◌≢◌, ℕ, zero, suc, ◌<◌, Bool, true, false, cond, None, Some, List, [], ◌∷◌, ◌++◌, length, get_or, refl, sym, ap, ◌∙◌, arith, All}
use Rattle.std.specs.Option.{option_map}
use Rattle.std.specs.List.{find, remove}
use Rattle.std.proofs.Math.ListN.{set}
use Rattle.nc_name.specs.declared.key.Key.{Key}
use Rattle.nc_memory.specs.declared.store.Object.{Object}
use Rattle.nc_cloud.specs.Contents.{ChangesAt, key_eq}
use Rattle.nc_memory.specs.Store.{Found, stored}
use Rattle.nc_cloud.proofs.Keys.{key_eq-Decides}

pub same_key : (a b : Key) → a ≡ b → key_eq a b ≡ true
same_key a b e = (key_eq-Decides a b).1 e

from_bool : (b : Bool) {P : Type 0} → (b ≡ true → P) → (P → ⊥) → b ≡ false
from_bool true f g = absurd (g (f refl))
from_bool false f g = refl

pub other_key : (a b : Key) → a ≢ b → key_eq a b ≡ false
other_key a b ne = from_bool (key_eq a b) (key_eq-Decides a b).0 ne

-- what is stored, an object after another
stored_here : (o : Object) (objects : List Object) (q : Key) → o.key ≡ q → stored (o ∷ objects) q ≡ Some o.bytes
stored_here o objects q e = ap (λ b. option_map (λ (x : Object). x.bytes) (cond b (Some o) (find (λ x. key_eq x.key q) objects))) (same_key o.key q e)

stored_later : (o : Object) (objects : List Object) (q : Key) → o.key ≢ q → stored (o ∷ objects) q ≡ stored objects q
stored_later o objects q ne = ap (λ b. option_map (λ (x : Object). x.bytes) (cond b (Some o) (find (λ x. key_eq x.key q) objects))) (other_key o.key q ne)

-- one more in front changes a place behind it alike
stored_alike : (o : Object) (xs ys : List Object) (q : Key) → stored ys q ≡ stored xs q → stored (o ∷ ys) q ≡ stored (o ∷ xs) q
stored_alike o xs ys q e = by_test (key_eq o.key q)
  where
    by_test : (b : Bool) → option_map (λ (x : Object). x.bytes) (cond b (Some o) (find (λ x. key_eq x.key q) ys)) ≡ option_map (λ (x : Object). x.bytes) (cond b (Some o) (find (λ x. key_eq x.key q) xs))
    by_test true = refl
    by_test false = e

pub stored_none : (objects : List Object) (key : Key) → All (λ o. o.key ≢ key) objects → stored objects key ≡ None
stored_none [] key none = refl
stored_none (o ∷ objects) key none = stored_later o objects key (none 0 o (omega arith)) ∙ stored_none objects key (λ k d l. none (suc k) d (omega arith))

later_found : (o : Object) (objects : List Object) (key : Key) (i : ℕ) → Found (o ∷ objects) key (suc i) → Found objects key i
later_found o objects key i f = record { within = let l : suc i < length (o ∷ objects) = f.within in omega (arith, l); here = f.here; before = λ k d l. f.before (suc k) d (omega arith) }

pub stored_found : (objects : List Object) (key : Key) (i : ℕ) (d : Object) → Found objects key i → stored objects key ≡ Some (get_or objects i d).bytes
stored_found [] key i d f = absurd (omega (arith, f.within))
stored_found (o ∷ objects) key zero d f = stored_here o objects key (f.here d)
stored_found (o ∷ objects) key (suc i) d f = stored_later o objects key (f.before 0 o (omega arith)) ∙ stored_found objects key i d (later_found o objects key i f)

pub set_stored : (objects : List Object) (key : Key) (i : ℕ) (y : Object) → Found objects key i → y.key ≡ key → stored (set objects i y) key ≡ Some y.bytes
set_stored [] key i y f e = absurd (omega (arith, f.within))
set_stored (o ∷ objects) key zero y f e = stored_here y objects key e
set_stored (o ∷ objects) key (suc i) y f e = stored_later o (set objects i y) key (f.before 0 o (omega arith)) ∙ set_stored objects key i y (later_found o objects key i f) e

pub set_others : (objects : List Object) (i : ℕ) (d y : Object) (q : Key) → i < length objects → (get_or objects i d).key ≢ q → y.key ≢ q → stored (set objects i y) q ≡ stored objects q
set_others [] i d y q l a b = absurd (omega arith)
set_others (o ∷ objects) zero d y q l a b = stored_later y objects q b ∙ sym (stored_later o objects q a)
set_others (o ∷ objects) (suc i) d y q l a b = stored_alike o objects (set objects i y) q (set_others objects i d y q (omega arith) a b)

pub push_stored : (objects : List Object) (o : Object) (q : Key) → All (λ x. x.key ≢ q) objects → stored (objects ++ o ∷ []) q ≡ stored (o ∷ []) q
push_stored [] o q none = refl
push_stored (x ∷ objects) o q none = stored_later x (objects ++ o ∷ []) q (none 0 x (omega arith)) ∙ push_stored objects o q (λ k d l. none (suc k) d (omega arith))

pub push_others : (objects : List Object) (o : Object) (q : Key) → o.key ≢ q → stored (objects ++ o ∷ []) q ≡ stored objects q
push_others [] o q ne = stored_later o [] q ne
push_others (x ∷ objects) o q ne = stored_alike x objects (objects ++ o ∷ []) q (push_others objects o q ne)

pub remove_others : (objects : List Object) (i : ℕ) (d : Object) (q : Key) → i < length objects → (get_or objects i d).key ≢ q → stored (remove objects i) q ≡ stored objects q
remove_others [] i d q l ne = absurd (omega arith)
remove_others (o ∷ objects) zero d q l ne = sym (stored_later o objects q ne)
remove_others (o ∷ objects) (suc i) d q l ne = stored_alike o objects (remove objects i) q (remove_others objects i d q (omega arith) ne)

-- an object is changed in place
pub set_changes : (objects : List Object) (key : Key) (i : ℕ) (d y : Object) → Found objects key i → y.key ≡ key → ChangesAt key (λ old left. left ≡ Some y.bytes) (stored objects) (stored (set objects i y))
set_changes objects key i d y f e = record {
  there = set_stored objects key i y f e;
  others = λ q ne. set_others objects i d y q f.within (λ s. ne (sym s ∙ f.here d)) (λ s. ne (sym s ∙ e));
}

-- an object more
pub push_changes : (objects : List Object) (o : Object) → All (λ x. x.key ≢ o.key) objects → ChangesAt o.key (λ old left. left ≡ Some o.bytes) (stored objects) (stored (objects ++ o ∷ []))
push_changes objects o none = record {
  there = push_stored objects o o.key none ∙ stored_here o [] o.key refl;
  others = λ q ne. push_others objects o q (λ s. ne (sym s));
}

-- an object is emptied
pub empty_changes : (objects : List Object) (key : Key) (i : ℕ) (d y : Object) → Found objects key i → y.key ≡ key → y.bytes ≡ [] → ChangesAt key (λ old left. left ≡ option_map {T = List ℕ} {U = List ℕ} (λ bytes. []) old) (stored objects) (stored (set objects i y))
empty_changes objects key i d y f e blank = record {
  there = set_stored objects key i y f e ∙ ap Some blank ∙ sym (ap (option_map (λ (bytes : List ℕ). [])) (stored_found objects key i d f));
  others = λ q ne. set_others objects i d y q f.within (λ s. ne (sym s ∙ f.here d)) (λ s. ne (sym s ∙ e));
}

pub none_changes : (objects : List Object) (key : Key) → All (λ o. o.key ≢ key) objects → ChangesAt key (λ old left. left ≡ option_map {T = List ℕ} {U = List ℕ} (λ bytes. []) old) (stored objects) (stored objects)
none_changes objects key none = record {
  there = stored_none objects key none ∙ sym (ap (option_map (λ (bytes : List ℕ). [])) (stored_none objects key none));
  others = λ q ne. refl;
}
