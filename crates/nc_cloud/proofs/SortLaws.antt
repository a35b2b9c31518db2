-- Keys in the order of their texts.
use Rattle.std.proofs.Common.{◌≡◌, ℕ, ◌+◌, ◌-◌, ◌<◌, ◌≤◌, true, false, List, [], ◌∷◌, ◌++◌, length, get_or, refl, sym, ap, ap₂, ◌∙◌, subst, arith, inl, inr, ◌⊎◌}
use Rattle.std.specs.Cmp.Lexicographic.{slice_cmp, nat_list_cmp_total}
use Rattle.std.specs.declared.cmp.Ordering.{Ordering}
use Rattle.std.specs.declared.cmp.Ordering.TheVariants.{Less, Equal, Greater}
use Rattle.std.specs.Ordering.{nat_cmp, ordering_then, ordering_reverse, is_lt}
use Rattle.std.specs.List.{Contains}
use Rattle.std.proofs.lemmas.Bool.{cases_lt}
use Rattle.std.proofs.lemmas.List.{get_or_default}
use Rattle.std.proofs.lemmas.List.Elements.{Contains-append_left, Contains-push, Contains-push_cases}
use Rattle.std.proofs.lemmas.List.Quantifiers.{all_pairs_push}
use Rattle.std.proofs.lemmas.List.Sorted.{ranks_by, sorted_far}
use Rattle.std.proofs.lemmas.Map.Lookups.{exact_bytes, exact_unsigned}
use Rattle.nc_name.specs.declared.key.Key.{Key}
use Rattle.nc_name.specs.declared.key.Key.TheVariants.{Meta, Chunk}
use Rattle.nc_name.specs.Keys.{key_text}
use Rattle.nc_cloud.specs.Cloud.{AreSorted, Ascend, IsBefore, key_order}

both_tied : (a b : Ordering) → ordering_then a b ≡ Equal → (a ≡ Equal) × (b ≡ Equal)
both_tied Equal b e = (refl, e)
both_tied Less b e = cc
both_tied Greater b e = cc

-- keys in one place of the order are the same
pub order_same : (a b : Key) → key_order a b ≡ Equal → a ≡ b
order_same (Meta n s) (Meta m t) e =
    let p : (slice_cmp nat_cmp n m ≡ Equal) × (nat_cmp s t ≡ Equal) = both_tied (slice_cmp nat_cmp n m) (nat_cmp s t) e in
    ap₂ Meta (exact_bytes n m p.0) (exact_unsigned s t p.1)
order_same (Chunk n s r) (Chunk m t q) e =
    let p : (slice_cmp nat_cmp n m ≡ Equal) × (ordering_then (nat_cmp s t) (nat_cmp r q) ≡ Equal) = both_tied (slice_cmp nat_cmp n m) (ordering_then (nat_cmp s t) (nat_cmp r q)) e in
    let u : (nat_cmp s t ≡ Equal) × (nat_cmp r q ≡ Equal) = both_tied (nat_cmp s t) (nat_cmp r q) p.1 in
    λ i. Chunk (exact_bytes n m p.0 i) (exact_unsigned s t u.0 i) (exact_unsigned r q u.1 i)
order_same (Meta n s) (Chunk m t q) e = cc
order_same (Chunk n s r) (Meta m t) e = cc

pub flipped : (a b : Key) → slice_cmp nat_cmp (key_text a) (key_text b) ≡ Greater → IsBefore b a
flipped a b e = nat_list_cmp_total.antisymm (key_text b) (key_text a) ∙ ap ordering_reverse e

before_then : (a b c : Key) → IsBefore a b → IsBefore b c → IsBefore a c
before_then a b c x y = nat_list_cmp_total.trans (key_text a) (key_text b) (key_text c) x y

-- of two keys the first isn't after the second
abbrev pub IsUpTo : Key → Key → Type 0
IsUpTo a b = is_lt (slice_cmp nat_cmp (key_text b) (key_text a)) ≡ false

module _ (a b c : Key) where
  up_to_by : (r s : Ordering) → slice_cmp nat_cmp (key_text a) (key_text b) ≡ r → slice_cmp nat_cmp (key_text b) (key_text a) ≡ s → s ≡ ordering_reverse r → is_lt s ≡ false → IsBefore b c → IsBefore a c
  up_to_by Less s e f turned low before = before_then a b c e before
  up_to_by Equal s e f turned low before = nat_list_cmp_total.congr (key_text a) (key_text b) (key_text c) e ∙ before
  up_to_by Greater s e f turned low before = let less : is_lt s ≡ true = ap is_lt turned in cc

  -- a key up to one that is before another is before it
  pub up_to_then : IsUpTo a b → IsBefore b c → IsBefore a c
  up_to_then low before = up_to_by _ _ refl refl (nat_list_cmp_total.antisymm (key_text b) (key_text a)) low before

-- sorted keys: an earlier one is up to a later one
pub ascends : (keys : List Key) (i j : ℕ) (d : Key) → Ascend keys → i ≤ j → j < length keys → IsUpTo (get_or keys i d) (get_or keys j d)
ascends keys i j d up l m = sorted_far _ (ranks_by nat_list_cmp_total key_text) keys up i j d l m

pub not_greater : (keys : List Key) (i : ℕ) (d : Key) → Ascend keys → 0 < i → i < length keys → slice_cmp nat_cmp (key_text (get_or keys (i - 1) d)) (key_text (get_or keys i d)) ≡ Greater → ⊥
not_greater keys i d up some l e =
    let low : IsUpTo (get_or keys (i - 1) d) (get_or keys i d) = ascends keys (i - 1) i d up (omega arith) l in
    let less : is_lt (slice_cmp nat_cmp (key_text (get_or keys i d)) (key_text (get_or keys (i - 1) d))) ≡ true = ap is_lt (flipped (get_or keys (i - 1) d) (get_or keys i d) e) in
    cc

-- the first i of sorted keys, each once
pub record EachOnce (keys list : List Key) (i : ℕ) : Type 0 where
  pub sorted : AreSorted list
  pub all : (k : ℕ) (d : Key) → k < i → Contains list (get_or keys k d)
  pub only : (q : Key) → Contains list q → (k : ℕ) × (k < i) × ((d : Key) → get_or keys k d ≡ q)

less_or_same : (k i : ℕ) → k < i + 1 → (k < i) ⊎ (k ≡ i)
less_or_same k i l = elim (cases_lt k i) [ inl a ↦ inl a | inr b ↦ inr (omega (arith, l, b)) ]

module _ (keys list : List Key) (i : ℕ) (up : Ascend keys) (l : i < length keys) (once : EachOnce keys list i) where
  -- a key that isn't the one before it is after all that stand there
  later : (key : Key) → ((d : Key) → get_or keys i d ≡ key) → (0 < i → (d : Key) → IsBefore (get_or keys (i - 1) d) (get_or keys i d)) → (k : ℕ) (d : Key) → k < length list → IsBefore (get_or list k d) key
  later key is first k d m =
      let q : Key = get_or list k d in
      let at : (j : ℕ) × (j < i) × ((e : Key) → get_or keys j e ≡ q) = once.only q (k, m, get_or_default list k q d m) in
      let some : 0 < i = omega (arith, at.1) in
      let low : IsUpTo (get_or keys at.0 d) (get_or keys (i - 1) d) = ascends keys at.0 (i - 1) d up (omega (arith, at.1)) (omega (arith, l)) in
      subst (IsBefore q) (is d) (up_to_then q (get_or keys (i - 1) d) (get_or keys i d) (subst (λ (x : Key). IsUpTo x (get_or keys (i - 1) d)) (at.2 d) low) (first some d))

  pub once_more : (key : Key) → ((d : Key) → get_or keys i d ≡ key) → (0 < i → (d : Key) → IsBefore (get_or keys (i - 1) d) (get_or keys i d)) → EachOnce keys (list ++ key ∷ []) (i + 1)
  once_more key is first = record {
    sorted = all_pairs_push IsBefore list key once.sorted (later key is first);
    all = λ k d m. elim (less_or_same k i m) [
      | inl b ↦ Contains-append_left list (key ∷ []) _ (once.all k d b)
      | inr e ↦ subst (Contains (list ++ key ∷ [])) (sym (is d) ∙ ap (λ j. get_or keys j d) (sym e)) (Contains-push list key)
    ];
    only = λ q has. elim (Contains-push_cases list key q has) [
      | inl b ↦ let at = once.only q b in (at.0, omega (arith, at.1), at.2)
      | inr e ↦ (i, omega arith, λ d. is d ∙ e)
    ];
  }

  pub once_still : (0 < i) × ((d : Key) → get_or keys (i - 1) d ≡ get_or keys i d) → EachOnce keys list (i + 1)
  once_still same = record {
    sorted = once.sorted;
    all = λ k d m. elim (less_or_same k i m) [
      | inl b ↦ once.all k d b
      | inr e ↦ subst (Contains list) (same.1 d ∙ ap (λ j. get_or keys j d) (sym e)) (once.all (i - 1) d (omega (arith, same.0)))
    ];
    only = λ q has. let at = once.only q has in (at.0, omega (arith, at.1), at.2);
  }

pub all_once : (keys list : List Key) → EachOnce keys list (length keys) → (q : Key) → Contains keys q → Contains list q
all_once keys list once q has = subst (Contains list) has.2 (once.all has.0 q has.1)

pub only_once : (keys list : List Key) → EachOnce keys list (length keys) → (q : Key) → Contains list q → Contains keys q
only_once keys list once q has = let at = once.only q has in (at.0, at.1, at.2 q)
