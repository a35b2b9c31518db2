-- What a shelf holds after an event, and the keys that it lists.
use Rattle.std.proofs.Common.{◌≡◌, ℕ, zero, suc, ◌<◌, Bool, true, false, ◌&&◌, cond, if◌then◌else◌, Option, None, Some, List, [], ◌∷◌, ◌++◌, length, get_or, nat_eq, refl, sym, ap, ap₂, ◌∙◌, subst, arith, inl, inr, Result}
use Rattle.std.specs.BTreeMap.{BTreeMap, IsEmpty, Updates, is_at, keys}
use Rattle.std.specs.Map.{lookup}
use Rattle.std.specs.List.{Contains}
use Rattle.std.specs.Option.{IsSome}
use Rattle.std.specs.Result.{IfOk}
use Rattle.std.specs.Ordering.{is_eq}
use Rattle.std.specs.declared.cmp.Ordering.TheVariants.{Equal}
use Rattle.std.specs.Cmp.Lexicographic.{on_texts, pointwise, texts_ties}
use Rattle.std.proofs.lemmas.Bool.{eq-eqb, eqb-true}
use Rattle.std.proofs.lemmas.Bool.Decides.{eqb_tells}
use Rattle.std.proofs.lemmas.Map.Views.{btree_map_contains_key_iff}
use Rattle.nc_name.specs.declared.key.Key.{Key}
use Rattle.nc_name.specs.declared.key.Key.TheVariants.{Meta, Chunk}
use Rattle.nc_cloud.specs.Cloud.{AreSorted, Lists}
use Rattle.nc_cloud.specs.Contents.{Contents, key_eq, nothing}
use Rattle.nc_cloud.proofs.Keys.{key_eq-Decides}
use Rattle.nc_memory.specs.declared.record.Event.{Event}
use Rattle.nc_memory.specs.declared.record.Step.{Step}
use Rattle.nc_memory.specs.declared.site.Site.{Site}
use Rattle.nc_memory.specs.Record.{contents_after, left, step_at, step_value}
use Rattle.nc_memory.specs.Shelf.{after_steps, keys_at, set_at, shelved}
use Rattle.nc_memory.specs.Sites.{key_numbers, site_cmp, site_numbers}
use Rattle.nc_memory.proofs.RecordLaws.{value-more}
use Rattle.nc_memory.proofs.SortLaws.{listed}

-- ---- sites

last_first : (a b : Bool) → (a && b) ≡ (b && a)
last_first true true = refl
last_first true false = refl
last_first false true = refl
last_first false false = refl

regroup : (a b c : Bool) → (a && (b && c)) ≡ (c && (a && b))
regroup true b c = last_first b c
regroup false b true = refl
regroup false b false = refl

same_numbers : (k q : Key) → pointwise nat_eq (key_numbers k) (key_numbers q) ≡ key_eq k q
same_numbers (Meta name slot) (Meta other s) = last_first (nat_eq slot s) (pointwise nat_eq name other)
same_numbers (Chunk name slot row) (Chunk other s r) = regroup (nat_eq slot s) (nat_eq row r) (pointwise nat_eq name other)
same_numbers (Meta name slot) (Chunk other s r) = refl
same_numbers (Chunk name slot row) (Meta other s) = refl

same_site : (a b : Site) → is_eq (site_cmp a b) ≡ (nat_eq a.cloud b.cloud && key_eq a.key b.key)
same_site a b = sym (texts_ties (site_numbers a) (site_numbers b)) ∙ ap (λ same. nat_eq a.cloud b.cloud && same) (same_numbers a.key b.key)

-- an object changed
pub updated : (old new : BTreeMap Site (List ℕ)) (site : Site) (object : Option (List ℕ)) → Updates site_cmp old new site object → shelved new ≡ set_at site object (shelved old)
updated old new site object u = λ i c key.
    let there : Site = record { cloud = c; key = key } in
    (u.0 there ∙ ap (λ b. cond b object (shelved old c key)) (same_site site there)) i

pub empty_shelf : (shelf : BTreeMap Site (List ℕ)) → IsEmpty shelf → shelved shelf ≡ nothing
empty_shelf shelf none = λ i c key. lookup (is_at (site_cmp (record { cloud = c; key = key }))) (none i)

-- ---- keys

both : (a b : Bool) → (a && b) ≡ true → (a ≡ true) × (b ≡ true)
both true true e = (refl, refl)
both true false e = cc
both false b e = cc

-- sites in one place of the order are the same
exact_site : (a b : Site) → site_cmp a b ≡ Equal → a ≡ b
exact_site a b e =
    let same : (nat_eq a.cloud b.cloud ≡ true) × (key_eq a.key b.key ≡ true) = both _ _ (sym (same_site a b) ∙ ap is_eq e) in
    let key : a.key ≡ b.key = (key_eq-Decides a.key b.key).0 same.1 in
    let cloud : a.cloud ≡ b.cloud = eqb-true a.cloud b.cloud same.0 in
    λ i. record { cloud = cloud i; key = key i }

module _ (c : ℕ) (q : Key) where
  abbrev site_of : Site
  site_of = record { cloud = c; key = q }

  one_more : (b : Bool) (x : Key) (xs : List Key) → Contains xs q → Contains (cond b (x ∷ xs) xs) q
  one_more true x xs has = (suc has.0, omega (arith, has.1), has.2)
  one_more false x xs has = has

  key_from : (sites : List Site) (k : ℕ) → k < length sites → get_or sites k site_of ≡ site_of → Contains (keys_at c sites) q
  key_from [] k l e = absurd (omega arith)
  key_from (s ∷ sites) zero l e = rw (eq-eqb s.cloud c (ap (λ (x : Site). x.cloud) e)) (0, omega arith, ap (λ (x : Site). x.key) e)
  key_from (s ∷ sites) (suc k) l e = one_more (nat_eq s.cloud c) s.key (keys_at c sites) (key_from sites k (omega arith) e)

  site_later : (s : Site) (sites : List Site) → Contains sites site_of → Contains (s ∷ sites) site_of
  site_later s sites has = (suc has.0, omega (arith, has.1), has.2)

  site_first : (s : Site) (sites : List Site) → (Contains (keys_at c sites) q → Contains sites site_of) → s.cloud ≡ c → (k : ℕ) → k < length (s.key ∷ keys_at c sites) → get_or (s.key ∷ keys_at c sites) k q ≡ q → Contains (s ∷ sites) site_of
  site_first s sites rest is zero l e = (0, omega arith, λ i. record { cloud = is i; key = e i })
  site_first s sites rest is (suc k) l e = site_later s sites (rest (k, omega arith, e))

  site_by : (b : Bool) (s : Site) (sites : List Site) → (Contains (keys_at c sites) q → Contains sites site_of) → (b ≡ true → s.cloud ≡ c) → Contains (cond b (s.key ∷ keys_at c sites) (keys_at c sites)) q → Contains (s ∷ sites) site_of
  site_by true s sites rest is has = site_first s sites rest (is refl) has.0 has.1 has.2
  site_by false s sites rest is has = site_later s sites (rest has)

  site_from : (sites : List Site) → Contains (keys_at c sites) q → Contains sites site_of
  site_from [] has = absurd (omega (arith, has.1))
  site_from (s ∷ sites) has = site_by (nat_eq s.cloud c) s sites (site_from sites) (eqb-true s.cloud c) has

-- a sorted list of a cloud's keys lists what it holds
pub shelf_listed : {E : Type 0} (shelf : BTreeMap Site (List ℕ)) (c : ℕ) (list : List Key) → list ≡ keys_at c (keys shelf) → (r : Result (List Key) E)
    → IfOk r AreSorted → IfOk r (λ sorted. (q : Key) → Contains list q → Contains sorted q) → IfOk r (λ sorted. (q : Key) → Contains sorted q → Contains list q) → IfOk r (Lists (shelved shelf c))
shelf_listed shelf c list is = listed (shelved shelf c) list (λ q some. subst (λ (ks : List Key). Contains ks q) (sym is) (all q some)) (λ q has. only q (subst (λ (ks : List Key). Contains ks q) is has))
  where
    all : (q : Key) → IsSome (shelved shelf c q) → Contains (keys_at c (keys shelf)) q
    all q some = let has = (btree_map_contains_key_iff (on_texts site_numbers) exact_site shelf (record { cloud = c; key = q })).0 some in key_from c q (keys shelf) has.0 has.1 has.2

    only : (q : Key) → Contains (keys_at c (keys shelf)) q → IsSome (shelved shelf c q)
    only q has = (btree_map_contains_key_iff (on_texts site_numbers) exact_site shelf (record { cloud = c; key = q })).1 (site_from c q (keys shelf) has)

-- ---- writes

in_place : (here there : Bool) (s : Step) (key : Key) (before old : Option (List ℕ)) → there ≡ key_eq s.key key → (here ≡ true → there ≡ true → before ≡ old)
    → (if here && there then left s.fate s.new before else old) ≡ step_value (cond here (Some s) None) key old
in_place true true s key before old e same = ap (left s.fate s.new) (same refl refl) ∙ ap (λ b. if b then left s.fate s.new old else old) e
in_place true false s key before old e same = ap (λ b. if b then left s.fate s.new old else old) e
in_place false there s key before old e same = refl

pub step_sets : (s : Step) (F : Contents) → set_at (record { cloud = s.cloud; key = s.key }) (left s.fate s.new (F s.cloud s.key)) F ≡ after_steps (s ∷ []) F
step_sets s F = λ i c key.
    in_place (nat_eq s.cloud c) (key_eq s.key key) s key (F s.cloud s.key) (F c key) refl
    (λ here there. ap₂ F (eqb-true s.cloud c here) ((key_eq-Decides s.key key).0 there)) i

abbrev first_of : Option Step → Option Step → Option Step
first_of None u = u
first_of (Some t) u = Some t

first_step : (here : Bool) (t : Step) (later after u : Option Step) → later ≡ first_of after u → cond here (Some t) later ≡ first_of (cond here (Some t) after) u
first_step true t later after u e = refl
first_step false t later after u e = e

step_more : (before : List Step) (s : Step) (c : ℕ) → step_at (before ++ s ∷ []) c ≡ first_of (step_at before c) (step_at (s ∷ []) c)
step_more [] s c = refl
step_more (t ∷ before) s c = first_step (nat_eq t.cloud c) t _ _ _ (step_more before s c)

first_alone : (o : Option Step) → first_of o None ≡ o
first_alone None = refl
first_alone (Some t) = refl

-- a write on a cloud that had one before changes nothing
pub step_passed : (before : List Step) (s t : Step) (F : Contents) → step_at before s.cloud ≡ Some t → after_steps before F ≡ after_steps (before ++ s ∷ []) F
step_passed before s t F had = λ i c key. step_value (sym (step_more before s c ∙ kept c) i) key (F c key)
  where
    kept : (c : ℕ) → first_of (step_at before c) (step_at (s ∷ []) c) ≡ step_at before c
    kept c =
        elim (eqb_tells s.cloud c) [
          | inl same ↦ let is : step_at before c ≡ Some t = ap (step_at before) (sym same.1) ∙ had in ap (λ o. first_of o (step_at (s ∷ []) c)) is ∙ sym is
          | inr other ↦ ap (λ b. first_of (step_at before c) (cond b (Some s) None)) other.0 ∙ first_alone (step_at before c)
        ]

-- and the first on a cloud comes after what was before
pub step_added : (before : List Step) (s : Step) (F : Contents) → step_at before s.cloud ≡ None → after_steps (s ∷ []) (after_steps before F) ≡ after_steps (before ++ s ∷ []) F
step_added before s F none = λ i c key. (added c key ∙ ap (λ o. step_value o key (F c key)) (sym (step_more before s c))) i
  where
    added : (c : ℕ) (key : Key) → step_value (step_at (s ∷ []) c) key (step_value (step_at before c) key (F c key)) ≡ step_value (first_of (step_at before c) (step_at (s ∷ []) c)) key (F c key)
    added c key =
        elim (eqb_tells s.cloud c) [
          | inl same ↦
              let is : step_at before c ≡ None = ap (step_at before) (sym same.1) ∙ none in
              ap (λ o. step_value (step_at (s ∷ []) c) key (step_value o key (F c key))) is ∙ sym (ap (λ o. step_value (first_of o (step_at (s ∷ []) c)) key (F c key)) is)
          | inr other ↦
              ap (λ b. step_value (cond b (Some s) None) key (step_value (step_at before c) key (F c key))) other.0
              ∙ sym (ap (λ b. step_value (first_of (step_at before c) (cond b (Some s) None)) key (F c key)) other.0 ∙ ap (λ o. step_value o key (F c key)) (first_alone (step_at before c)))
        ]

-- ---- events

pub contents_more : (log : List Event) (e : Event) → contents_after (e ∷ []) (contents_after log nothing) ≡ contents_after (log ++ e ∷ []) nothing
contents_more log e = λ i c key. sym (value-more log e c key None) i
