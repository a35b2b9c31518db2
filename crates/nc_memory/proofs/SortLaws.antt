-- The keys of objects.
use Rattle.std.proofs.Common.{◌≡◌, ℕ, zero, suc, ◌<◌, Bool, true, false, cond, Some, List, [], ◌∷◌, map, length, get_or, refl, sym, ap, ◌∙◌, subst, arith, Result, Ok, Err}
use Rattle.std.specs.Option.{option_map, IsSome, is_some}
use Rattle.std.specs.List.{find, Contains}
use Rattle.std.specs.Result.{IfOk}
use Rattle.std.proofs.lemmas.List.{length-map, get_or-map}
use Rattle.nc_cloud.specs.Cloud.{AreSorted, Lists}
use Rattle.nc_cloud.proofs.Entries.{some_of}
use Rattle.nc_name.specs.declared.key.Key.{Key}
use Rattle.nc_memory.specs.declared.store.Object.{Object}
use Rattle.nc_cloud.specs.Contents.{Store, key_eq}
use Rattle.nc_memory.specs.Store.{stored}
use Rattle.nc_memory.proofs.StoreLaws.{same_key}
use Rattle.nc_cloud.proofs.Keys.{key_eq-Decides}

-- a key that an object has holds something
pub member_stored : (objects : List Object) (k : ℕ) (d : Object) → k < length objects → IsSome (stored objects (get_or objects k d).key)
member_stored [] k d l = absurd (omega arith)
member_stored (o ∷ objects) zero d l = ap (λ b. is_some (option_map (λ (x : Object). x.bytes) (cond b (Some o) (find (λ x. key_eq x.key o.key) objects)))) (same_key o.key o.key refl)
member_stored (o ∷ objects) (suc k) d l = found (key_eq o.key (get_or objects k d).key) (member_stored objects k d (omega arith))
  where
    found : (b : Bool) → IsSome (stored objects (get_or objects k d).key) → IsSome (option_map (λ (x : Object). x.bytes) (cond b (Some o) (find (λ x. key_eq x.key (get_or objects k d).key) objects)))
    found true later = refl
    found false later = later

-- a key that holds something is an object's
pub stored_member : (objects : List Object) (q : Key) → IsSome (stored objects q) → (k : ℕ) × (k < length objects) × ((d : Object) → (get_or objects k d).key ≡ q)
stored_member [] q s = cc
stored_member (o ∷ objects) q s = found (stored_member objects q) (key_eq o.key q) (key_eq-Decides o.key q).0 s
  where
    found : (IsSome (stored objects q) → (k : ℕ) × (k < length objects) × ((d : Object) → (get_or objects k d).key ≡ q)) → (b : Bool) → (b ≡ true → o.key ≡ q) → IsSome (option_map (λ (x : Object). x.bytes) (cond b (Some o) (find (λ x. key_eq x.key q) objects))) → (k : ℕ) × (k < length (o ∷ objects)) × ((d : Object) → (get_or (o ∷ objects) k d).key ≡ q)
    found rest true same s = (0, omega arith, λ d. same refl)
    found rest false same s = let at = rest s in (suc at.0, omega (arith, at.1), at.2)

key_listed : (objects : List Object) (q : Key) → IsSome (stored objects q) → Contains (map (λ o. o.key) objects) q
key_listed objects q some =
    let at : (k : ℕ) × (k < length objects) × ((d : Object) → (get_or objects k d).key ≡ q) = stored_member objects q some in
    let o : Object = some_of objects (omega (arith, at.1)) in
    (at.0, omega (arith, at.1, length-map objects (λ (o : Object). o.key)), get_or-map (λ (o : Object). o.key) objects at.0 o q at.1 ∙ at.2 o)

key_stored : (objects : List Object) (q : Key) → Contains (map (λ o. o.key) objects) q → IsSome (stored objects q)
key_stored objects q c =
    let here : c.0 < length objects = omega (arith, c.1, length-map objects (λ (o : Object). o.key)) in
    let o : Object = some_of objects (omega (arith, here)) in
    subst (λ (k : Key). IsSome (stored objects k)) (sym (get_or-map (λ (o : Object). o.key) objects c.0 o q here) ∙ c.2) (member_stored objects c.0 o here)

-- a sorted list of the keys that hold something lists what is held
pub listed : {E : Type 0} (held : Store) (keys : List Key) → ((q : Key) → IsSome (held q) → Contains keys q) → ((q : Key) → Contains keys q → IsSome (held q)) → (r : Result (List Key) E)
    → IfOk r AreSorted → IfOk r (λ list. (q : Key) → Contains keys q → Contains list q) → IfOk r (λ list. (q : Key) → Contains list q → Contains keys q) → IfOk r (Lists held)
listed held keys named holds (Ok list) sorted all only = record { all = λ q some. all q (named q some); only = λ q has. holds q (only q has); sorted = sorted }
listed held keys named holds (Err e) sorted all only = tt

-- so does one of the keys of objects
pub objects_listed : {E : Type 0} (objects : List Object) (keys : List Key) → keys ≡ map (λ o. o.key) objects → (r : Result (List Key) E)
    → IfOk r AreSorted → IfOk r (λ list. (q : Key) → Contains keys q → Contains list q) → IfOk r (λ list. (q : Key) → Contains list q → Contains keys q) → IfOk r (Lists (stored objects))
objects_listed objects keys is =
    listed (stored objects) keys (λ q some. subst (λ (ks : List Key). Contains ks q) (sym is) (key_listed objects q some)) (λ q has. key_stored objects q (subst (λ (ks : List Key). Contains ks q) is has))
