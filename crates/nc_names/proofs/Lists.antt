-- The names of keys, cloud by cloud.
use Rattle.std.proofs.Common.{◌≡◌, ◌≢◌, ℕ, ◌+◌, ◌<◌, ◌≤◌, ◌⊎◌, inl, inr, Bool, true, false, List, [], ◌∷◌, ◌++◌, length, take, get_or, set, map, refl, sym, ap, ◌∙◌, subst, arith}
use Rattle.std.specs.List.{All, Contains}
use Rattle.std.specs.Option.{IsSome}
use Rattle.std.proofs.lemmas.Bool.{cases_Bool, cases_lt}
use Rattle.std.proofs.lemmas.Bool.Decides.{eqb_tells}
use Rattle.std.proofs.lemmas.List.{append_assoc, get_or-map, get_or-set_other, get_or-set_same, length-map, length-set, map_push, take_more}
use Rattle.std.proofs.lemmas.List.Elements.{All-append, All-contains, All-contains_itself, All-map, All-nil, All-push, All-weaker, Contains-append_cases, Contains-append_left, Contains-append_right}
use Rattle.nc_name.specs.declared.key.Key.{Key}
use Rattle.nc_name.specs.Keys.{name_of}
use Rattle.nc_name.specs.Names.{IsName}
use Rattle.nc_cloud.specs.Cloud.{Lists}
use Rattle.nc_cloud.specs.Contents.{Contents, Rose, Store}
use Rattle.nc_cloud.specs.declared.fleet.Fleet.{Ghosts as FleetGhosts}
use Rattle.nc_cloud.proofs.Counts.{rose_more}
use Rattle.nc_cloud.proofs.Time.{stops_none, stops_twice}
use Rattle.nc_state.specs.Clouds.{Clouds}
use Rattle.nc_names.specs.Listing.{AddsNames, HaveRisen, ListsBelow, ListsOne, NamesBelow, OnlyListed, StayOutside, named}

-- ---- the names of keys

-- the names of the first i keys were added to others
pub record Pushed (keys : List Key) (i : ℕ) (before names : List (List ℕ)) : Type 0 where
  pub added : names ≡ before ++ map name_of (take i keys)
  pub valid : All IsName (map name_of (take i keys))

pub pushed_more : (keys : List Key) (i : ℕ) (before names : List (List ℕ)) (key : Key) → i < length keys → get_or keys i key ≡ key → IsName (name_of key)
    → Pushed keys i before names → Pushed keys (i + 1) before (names ++ name_of key ∷ [])
pushed_more keys i before names key l is valid was =
    let one_more : map name_of (take (i + 1) keys) ≡ map name_of (take i keys) ++ name_of key ∷ [] =
    ap (map name_of) (take_more keys i key l) ∙ map_push name_of (take i keys) (get_or keys i key) ∙ ap (λ k. map name_of (take i keys) ++ name_of k ∷ []) is in
    record {
      added = ap (λ l. l ++ name_of key ∷ []) was.added ∙ append_assoc before (map name_of (take i keys)) (name_of key ∷ []) ∙ ap (λ l. before ++ l) (sym one_more);
      valid = subst (All IsName) (sym one_more) (All-push IsName _ _ was.valid valid);
    }

named_by : (keys : List Key) (key : Key) → Contains keys key → Contains (map name_of keys) (name_of key)
named_by keys key has =
    let within : has.0 < length (map name_of keys) = subst (λ n. has.0 < n) (sym (length-map keys name_of)) has.1 in
    (has.0, within, get_or-map name_of keys has.0 key (name_of key) has.1 ∙ ap name_of has.2)

abbrev HasKey : List Key → List ℕ → Type 0
HasKey keys name = (key : Key) × Contains keys key × (name_of key ≡ name)

key_of : (keys : List Key) (name : List ℕ) → Contains (map name_of keys) name → HasKey keys name
key_of keys name has =
    All-contains (HasKey keys) (map name_of keys) name
    (All-map (HasKey keys) name_of keys (All-weaker (Contains keys) (λ k. HasKey keys (name_of k)) (λ k within. (k, within, refl)) keys (All-contains_itself keys))) has

-- the list of a cloud gives the names of what it holds
pub adds_names : (held : Store) (keys : List Key) (before names : List (List ℕ)) → Lists held keys → names ≡ before ++ map name_of keys → AddsNames held before names
adds_names held keys before names lists is =
    let all : List (List ℕ) = before ++ map name_of keys in
    record {
      kept = λ name has. subst (λ l. Contains l name) (sym is) (Contains-append_left before (map name_of keys) name has);
      all = λ place there. subst (λ l. Contains l (name_of place)) (sym is) (Contains-append_right before (map name_of keys) (name_of place) (named_by keys place (lists.all place there)));
      only = λ name has. elim (Contains-append_cases before (map name_of keys) name (subst (λ l. Contains l name) is has)) [
        | inl old ↦ inl old
        | inr new ↦ let k = key_of keys name new in inr (k.0, k.2, lists.only k.0 k.1)
      ];
    }

pub valid_more : (keys : List Key) (before names : List (List ℕ)) → names ≡ before ++ map name_of keys → All IsName (map name_of keys) → All IsName before → All IsName names
valid_more keys before names is valid was = subst (All IsName) (sym is) (All-append IsName before (map name_of keys) was valid)

-- ---- clouds

less_or_same : (c k : ℕ) → c < k + 1 → (c < k) ⊎ (c ≡ k)
less_or_same c k l = elim (cases_lt c k) [ inl a ↦ inl a | inr b ↦ inr (omega (arith, l, b)) ]

module _ (table : List Bool) (k : ℕ) (b : Bool) (within : k < length table) where
  mark_here : (c : ℕ) → c ≡ k → named (set table k b) c ≡ b
  mark_here c same = ap (named (set table k b)) same ∙ get_or-set_same table k b false within

  mark_other : (c : ℕ) → c ≢ k → named (set table k b) c ≡ named table c
  mark_other c other = get_or-set_other table k c b false other

  -- what the table with the mark of k names is k, or was named before
  marked : (c : ℕ) → named (set table k b) c ≡ true → ((c ≡ k) × (b ≡ true)) ⊎ (named table c ≡ true)
  marked c is = elim (eqb_tells c k) [
    | inl same ↦ inl (same.1, sym (mark_here c same.1) ∙ is)
    | inr other ↦ inr (sym (mark_other c other.1) ∙ is)
  ]

  module _ (H : Contents) (before after : List (List ℕ)) (was : NamesBelow k H (named table) before) where
    lower : (c : ℕ) (place : Key) → c < k → named (set table k b) c ≡ false → IsSome (H c place) → Contains before (name_of place)
    lower c place l out there = was.all c place l (sym (mark_other c (λ same. omega (arith, l, same))) ∙ out) there

    listed_more : b ≡ false → AddsNames (H k) before after → NamesBelow (k + 1) H (named (set table k b)) after
    listed_more fine adds = record {
      all = λ c place l out there. elim (less_or_same c k l) [
        | inl low ↦ adds.kept (name_of place) (lower c place low out there)
        | inr same ↦ adds.all place (subst (λ (d : ℕ). IsSome (H d place)) same there)
      ];
      only = λ name has. elim (adds.only name has) [
        | inl old ↦ let f = was.only name old in (f.0, omega (arith, f.1), f.2, f.3, f.4)
        | inr new ↦ (k, omega arith, new.0, new.1, new.2)
      ];
    }

    failed_more : b ≡ true → after ≡ before → NamesBelow (k + 1) H (named (set table k b)) after
    failed_more fails same_names = record {
      all = λ c place l out there. elim (less_or_same c k l) [
        | inl low ↦ subst (λ l. Contains l (name_of place)) (sym same_names) (lower c place low out there)
        | inr same ↦ let wrong : true ≡ false = sym fails ∙ sym (mark_here c same) ∙ out in absurd cc
      ];
      only = λ name has. let f = was.only name (subst (λ l. Contains l name) same_names has) in (f.0, omega (arith, f.1), f.2, f.3, f.4);
    }

    names_more : (b ≡ false → AddsNames (H k) before after) → (b ≡ true → after ≡ before) → NamesBelow (k + 1) H (named (set table k b)) after
    names_more adds stays = elim (cases_Bool b) [ inl fails ↦ failed_more fails (stays fails) | inr fine ↦ listed_more fine (adds fine) ]

rose_later : (a b c : ℕ) → Rose a b → b ≤ c → Rose a c
rose_later a b c rose low = omega (arith, rose, low)

-- a cloud that comes next has no mark
unmarked : (k : ℕ) (before now : ℕ → ℕ) (X : Clouds) → HaveRisen k before now X → X k ≡ false
unmarked k before now X risen = elim (cases_Bool (X k)) [
  | inl is ↦ let r = risen.each k is in absurd (omega (arith, r.0))
  | inr is ↦ is
]

module _ {A : Type 0} {F : FleetGhosts A} where
  pub listed_none : (s : A) → OnlyListed F s s
  listed_none s = record { clouds = refl; held = refl; faults = refl; grows = λ c. omega arith; gets = refl; stops = stops_none s (λ G. G ≡ F.held s) }

  pub listed_then : {s t u : A} → OnlyListed F s t → OnlyListed F t u → OnlyListed F s u
  listed_then a b = record {
    clouds = b.clouds ∙ a.clouds;
    held = b.held ∙ a.held;
    faults = b.faults ∙ a.faults;
    grows = λ c. let x = a.grows c in let y = b.grows c in omega (arith, x, y);
    gets = b.gets ∙ a.gets;
    stops = stops_twice a.held a.stops b.stops;
  }

  -- no cloud was listed
  pub below_none : (s : A) (table : List Bool) (names : List (List ℕ)) → length table ≡ 10 → ((c : ℕ) → named table c ≡ false) → names ≡ [] → ListsBelow F 0 s s table names
  below_none s table names ten none is = record {
    whole = ten;
    told = λ tells. record { all = λ c place l. absurd (omega (arith, l)); only = λ name has. let e : length names ≡ 0 = ap length is in let l : has.0 < length names = has.1 in absurd (omega (arith, e, l)) };
    valid = subst (All IsName) (sym is) (All-nil IsName);
    rose = record { each = λ c marks. let wrong : true ≡ false = sym marks ∙ none c in absurd cc };
    exact = λ told. record { each = λ c out. refl };
    only = listed_none s;
  }

  -- one more was
  module _ {s t u : A} (k : ℕ) (table : List Bool) (before after : List (List ℕ)) (b : Bool) (low : k < 10) (was : ListsBelow F k s t table before) (one : ListsOne F k t u before after b) (listed : OnlyListed F t u) where
    within : k < length table
    within = let e : length table ≡ 10 = was.whole in omega (arith, e, low)

    rose_more_lists : HaveRisen (k + 1) (F.slips s) (F.slips u) (named (set table k b))
    rose_more_lists = record {
      each = λ c marks. elim (marked table k b within c marks) [
        | inl here ↦ (let e : c ≡ k = here.0 in omega (arith, e), subst (λ (d : ℕ). Rose (F.slips s d) (F.slips u d)) (sym here.0) (rose_more (F.slips s k) (F.slips t k) (F.slips u k) (was.only.grows k) (one.rose here.1)))
        | inr old ↦ let r = was.rose.each c old in (omega (arith, r.0), rose_later (F.slips s c) (F.slips t c) (F.slips u c) r.1 (listed.grows c))
      ];
    }

    stay_more : F.counts_exactly → StayOutside (F.slips s) (F.slips u) (named (set table k b))
    stay_more told = record {
      each = λ c out.
          let before_it : named table c ≡ false = elim (eqb_tells c k) [
            | inl same ↦ ap (named table) same.1 ∙ unmarked k (F.slips s) (F.slips t) (named table) was.rose
            | inr other ↦ sym (mark_other table k b within c other.1) ∙ out
          ] in
          one.exact told c (λ same. sym (mark_here table k b within c same) ∙ out) ∙ (was.exact told).each c before_it;
    }

    pub below_more : ListsBelow F (k + 1) s u (set table k b) after
    below_more = record {
      whole = length-set table k b ∙ was.whole;
      told = λ tells. names_more table k b within (F.held s) before after (was.told tells) (λ fine. subst (λ (H : Contents). AddsNames (H k) before after) was.only.held (one.told tells fine)) one.stay;
      valid = one.valid was.valid;
      rose = rose_more_lists;
      exact = stay_more;
      only = listed_then was.only listed;
    }
