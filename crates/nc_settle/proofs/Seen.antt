-- What a view tells of what is held.
use Rattle.std.proofs.Common.{ℕ, ◌≡◌, ◌≢◌, ◌<◌, ◌≤◌, ◌%◌, ◌==◌, Bool, get_or, if◌then◌else◌, Option, None, Some, List, length, sym, ap, ◌∙◌, subst, refl, arith, inl, inr}
use Rattle.std.proofs.lemmas.Bool.{cases_Bool, cases_lt}
use Rattle.std.proofs.lemmas.List.{get_or_past}
use Rattle.nc_name.specs.declared.key.Key.TheVariants as key
use Rattle.nc_name.specs.Names.{IsName}
use Rattle.nc_frame.proofs.Shapes.{same_parts}
use Rattle.nc_meta.specs.declared.meta.Meta.{Meta}
use Rattle.nc_meta.specs.Metas.{IsMeta, Spells, generation_of}
use Rattle.nc_meta.proofs.OneSpelling.{one_spelling}
use Rattle.nc_cloud.specs.Contents.{Contents, Rose}
use Rattle.nc_state.specs.Holding.{Holds, HeldByNone, IsTop, Undisputed, IsDisputed}
use Rattle.nc_settle.specs.declared.place.Place.{Place}
use Rattle.nc_settle.specs.declared.place.Place.TheVariants as place
use Rattle.nc_settle.specs.Views.{Places, place_at, width_of}
use Rattle.nc_settle.specs.Judging.{SealedMeta, HasMetaOf, IsOfElsewhere, IsPlaceOf}
use Rattle.nc_settle.specs.Looking.{Sees, HasWidth, HasMetas, FailuresRose, OnlyFailuresRose}
use Rattle.nc_settle.specs.Decisions.{HasSealed, IsConflict, IsLeastFailed, IsLeastMisplaced, SeesTop, NoConflict, NoneFailed, NoneMisplaced, SeesNone}
use Rattle.nc_settle.specs.Elsewhere.{IsMisplacedAt, NothingMisplaced, LeastMisplaced}
use Rattle.nc_settle.proofs.HeldMetas.{meta_held, stands_sealed}

some_same : {A : Type 0} {x y : A} → Some x ≡ Some y → x ≡ y
some_same e = cc

-- sealed bytes are those of one meta
one_meta : (n : ℕ) (name : List ℕ) (c slot : ℕ) (bytes : List ℕ) (m o : Meta) → 4 ≤ n → n ≤ 10 → SealedMeta n name c slot bytes m → SealedMeta n name c slot bytes o → m ≡ o
one_meta n name c slot bytes m o wide narrow s t =
    let same = same_parts bytes c c n n _ _ _ _ s.is_sealed t.is_sealed in
    one_spelling n wide narrow t.payload m o (subst (λ (q : List ℕ). Spells n q m) same.payload s.spells) t.spells

-- sealed bytes are not of elsewhere
not_both : (n : ℕ) (name : List ℕ) (c slot : ℕ) (bytes : List ℕ) (m : Meta) (a b : ℕ) → SealedMeta n name c slot bytes m → IsOfElsewhere n c bytes a b → ⊥
not_both n name c slot bytes m a b s other =
    let same = same_parts bytes c a n b _ _ _ _ s.is_sealed other.is_sealed in
    elim other.elsewhere [
      | inl differs ↦ differs (sym same.cloud)
      | inr differs ↦ differs (sym same.width)
    ]

-- a place that was seen where a sealed meta stands, unless it failed
sealed_place : (n : ℕ) (name : List ℕ) (c slot : ℕ) (held : Option (List ℕ)) (p : Place) (bytes : List ℕ) (m : Meta) → 4 ≤ n → n ≤ 10 → IsPlaceOf n name c slot held p
    → held ≡ Some bytes → SealedMeta n name c slot bytes m → p ≢ place.Failed → p ≡ place.Sealed m
sealed_place n name c slot held place.Absent bytes m wide narrow is stands s fine = let no : None ≡ Some bytes = sym is ∙ stands in absurd cc
sealed_place n name c slot held place.Broken bytes m wide narrow is stands s fine =
    let same : is.0 ≡ bytes = some_same (sym is.1 ∙ stands) in
    absurd (is.2.no_meta m (subst (λ (b : List ℕ). SealedMeta n name c slot b m) (sym same) s))
sealed_place n name c slot held (place.Misplaced a b) bytes m wide narrow is stands s fine =
    let same : is.0 ≡ bytes = some_same (sym is.1 ∙ stands) in
    absurd (not_both n name c slot bytes m a b s (subst (λ (x : List ℕ). IsOfElsewhere n c x a b) same is.3))
sealed_place n name c slot held place.Failed bytes m wide narrow is stands s fine = absurd (fine refl)
sealed_place n name c slot held (place.Sealed o) bytes m wide narrow is stands s fine =
    let same : is.0 ≡ bytes = some_same (sym is.1 ∙ stands) in
    ap place.Sealed (one_meta n name c slot bytes o m wide narrow (subst (λ (b : List ℕ). SealedMeta n name c slot b o) same is.3) s)

-- and where a frame of elsewhere stands
misplaced_place : (n : ℕ) (name : List ℕ) (c slot : ℕ) (held : Option (List ℕ)) (p : Place) (bytes : List ℕ) (a b : ℕ) → IsPlaceOf n name c slot held p
    → held ≡ Some bytes → length bytes ≤ 2048 → IsOfElsewhere n c bytes a b → p ≢ place.Failed → p ≡ place.Misplaced a b
misplaced_place n name c slot held place.Absent bytes a b is stands short other fine = let no : None ≡ Some bytes = sym is ∙ stands in absurd cc
misplaced_place n name c slot held place.Broken bytes a b is stands short other fine =
    let same : bytes ≡ is.0 = some_same (sym stands ∙ is.1) in
    let fits : length is.0 ≤ 2048 = subst (λ (x : List ℕ). length x ≤ 2048) same short in
    absurd (is.2.not_misplaced fits a b (subst (λ (x : List ℕ). IsOfElsewhere n c x a b) same other))
misplaced_place n name c slot held (place.Misplaced x y) bytes a b is stands short other fine =
    let same : is.0 ≡ bytes = some_same (sym is.1 ∙ stands) in
    let there : IsOfElsewhere n c bytes x y = subst (λ (z : List ℕ). IsOfElsewhere n c z x y) same is.3 in
    let parts = same_parts bytes x a y b _ _ _ _ there.is_sealed other.is_sealed in
    ap (λ k. place.Misplaced k y) parts.cloud ∙ ap (λ k. place.Misplaced a k) parts.width
misplaced_place n name c slot held place.Failed bytes a b is stands short other fine = absurd (fine refl)
misplaced_place n name c slot held (place.Sealed m) bytes a b is stands short other fine =
    let same : is.0 ≡ bytes = some_same (sym is.1 ∙ stands) in
    absurd (not_both n name c slot bytes m a b (subst (λ (z : List ℕ). SealedMeta n name c slot z m) same is.3) other)

pub parity_low : (k : ℕ) → k % 2 < 2
parity_low k = omega arith

module _ (n : ℕ) (name : List ℕ) (F : Contents) (v : Places) (wide : 4 ≤ n) (narrow : n ≤ 10) (valid : IsName name) (sees : Sees n name F v) where
  -- what was seen is held
  pub seen_held : (c : ℕ) (m : Meta) → c < n → HasSealed v c m → Holds n F name c m
  seen_held c m l has =
      let is : IsPlaceOf n name c has.slot (F c (key.Meta name has.slot)) (place.Sealed m) = subst (λ (p : Place). IsPlaceOf n name c has.slot (F c (key.Meta name has.slot)) p) has.sealed (sees.each c has.slot l has.in_pair) in
      let slot : has.slot ≡ generation_of m % 2 = sym is.3.parity in
      meta_held n F name wide narrow valid c m l (record {
        bytes = is.0;
        stands = subst (λ (s : ℕ). F c (key.Meta name s) ≡ Some is.0) slot is.1;
        is_sealed = subst (λ (s : ℕ). SealedMeta n name c s is.0 m) slot is.3;
      })

  -- what is held was seen, where the place didn't fail
  held_at : (c : ℕ) (m : Meta) → c < n → Holds n F name c m → place_at v c (generation_of m % 2) ≢ place.Failed → place_at v c (generation_of m % 2) ≡ place.Sealed m
  held_at c m l holds fine =
      let s = stands_sealed n F name wide narrow valid c m l holds in
      sealed_place n name c (generation_of m % 2) _ _ s.bytes m wide narrow (sees.each c (generation_of m % 2) l (parity_low (generation_of m))) s.stands s.is_sealed fine

  pub held_seen : (c : ℕ) (m : Meta) → c < n → Holds n F name c m → place_at v c (generation_of m % 2) ≢ place.Failed → HasSealed v c m
  held_seen c m l holds fine = record { slot = generation_of m % 2; in_pair = parity_low (generation_of m); sealed = held_at c m l holds fine }

  pub misplaced_held : (c slot a b : ℕ) → c < n → slot < 2 → place_at v c slot ≡ place.Misplaced a b → IsMisplacedAt n name F c slot a b
  misplaced_held c slot a b l low e =
      let is : IsPlaceOf n name c slot (F c (key.Meta name slot)) (place.Misplaced a b) = subst (λ (p : Place). IsPlaceOf n name c slot (F c (key.Meta name slot)) p) e (sees.each c slot l low) in
      record { bytes = is.0; stands = is.1; short = is.2; is_of_elsewhere = is.3 }

  pub held_misplaced : (c slot a b : ℕ) → c < n → slot < 2 → IsMisplacedAt n name F c slot a b → place_at v c slot ≢ place.Failed → place_at v c slot ≡ place.Misplaced a b
  held_misplaced c slot a b l low at fine = misplaced_place n name c slot _ _ at.bytes a b (sees.each c slot l low) at.stands at.short at.is_of_elsewhere fine

  -- where no place failed
  module _ (width : width_of v ≡ n) (none_failed : NoneFailed v) where
    fine : (c slot : ℕ) → c < n → slot < 2 → place_at v c slot ≢ place.Failed
    fine c slot l low e = none_failed c (omega (arith, width)) (record { slot = slot; in_pair = low; failed = e })

    pub seen_at : (c : ℕ) (m : Meta) → c < n → Holds n F name c m → place_at v c (generation_of m % 2) ≡ place.Sealed m
    seen_at c m l holds = held_at c m l holds (fine c (generation_of m % 2) l (parity_low (generation_of m)))

    pub all_seen : (c : ℕ) (m : Meta) → c < n → Holds n F name c m → HasSealed v c m
    all_seen c m l holds = held_seen c m l holds (fine c (generation_of m % 2) l (parity_low (generation_of m)))

    pub none_held : SeesNone v → HeldByNone n F name
    none_held none = record { none = λ c m l holds. none c m (omega (arith, width)) (all_seen c m l holds) }

    pub top_is_highest : (c : ℕ) (m : Meta) → SeesTop v c m → IsTop n F name m
    top_is_highest c m top = record {
      cloud = c;
      in_width = omega (arith, width, top.in_width);
      held = seen_held c m (omega (arith, width, top.in_width)) top.has;
      highest = λ d o l holds. top.highest d o (omega (arith, width)) (all_seen d o l holds);
    }

    pub undisputed : NoConflict v → (c : ℕ) (m : Meta) → SeesTop v c m → Undisputed n F name m
    undisputed none c m top = record { same = λ d o l holds. none c d m top (omega (arith, width)) o (all_seen d o l holds) }

    pub disputed : (generation a b : ℕ) → IsConflict v generation a b → IsDisputed n F name generation a b
    disputed generation a b is =
        let a_low : a < n = omega (arith, width, is.top.in_width) in
        let b_low : b < n = omega (arith, width, is.in_width) in
        record {
          meta = is.meta;
          other = is.other.other;
          is_generation = is.is_generation;
          same_generation = is.other.same_generation ∙ is.is_generation;
          differ = is.other.differs;
          a_in_width = a_low;
          b_in_width = b_low;
          a_holds = seen_held a is.meta a_low is.top.has;
          b_holds = seen_held b is.other.other b_low is.other.has;
          highest = λ c o l holds. let below : generation_of o ≤ generation_of is.meta = is.top.highest c o (omega (arith, width)) (all_seen c o l holds) in omega (arith, is.is_generation);
          before_a = λ c o l holds. let below : generation_of o < generation_of is.meta = is.top.least c o l (all_seen c o (omega arith) holds) in omega (arith, is.is_generation);
          before_b = λ c o l holds same. is.before c l o (all_seen c o (omega arith) holds) (same ∙ sym is.is_generation);
        }

    pub nothing_misplaced : NoneMisplaced v → NothingMisplaced n name F
    nothing_misplaced none = record {
      none = λ c slot a b l low at. none c (omega (arith, width)) (record { slot = slot; said_cloud = a; said_width = b; in_pair = low; misplaced = held_misplaced c slot a b l low at (fine c slot l low) });
    }

    before_least : (c a b : ℕ) → IsLeastMisplaced v c a b → (d s x y : ℕ) → d < c → s < 2 → IsMisplacedAt n name F d s x y → ⊥
    before_least c a b is d s x y low pair at =
        let l : d < n = omega (arith, width, is.in_width) in
        is.before d low (record { slot = s; said_cloud = x; said_width = y; in_pair = pair; misplaced = held_misplaced d s x y l pair at (fine d s l pair) })

    pub least_misplaced_held : (c a b : ℕ) → IsLeastMisplaced v c a b → LeastMisplaced n name F c a b
    least_misplaced_held c a b is =
        let l : c < n = omega (arith, width, is.in_width) in
        elim is.from [
          | inl first ↦ record {
            in_width = l;
            slot = 0;
            in_pair = omega arith;
            here = misplaced_held c 0 a b l (omega arith) first;
            first_slot = λ s x y low at. absurd (omega arith);
            before = before_least c a b is;
          }
          | inr second ↦ record {
            in_width = l;
            slot = 1;
            in_pair = omega arith;
            here = misplaced_held c 1 a b l (omega arith) second.0;
            first_slot = λ s x y low at.
                let zero_is : s ≡ 0 = omega arith in
                second.1 x y (held_misplaced c 0 x y l (omega arith) (subst (λ (k : ℕ). IsMisplacedAt n name F c k x y) zero_is at) (fine c 0 l (omega arith)));
            before = before_least c a b is;
          }
        ]

-- what a place says past the last cloud
past : (v : Places) (n c slot : ℕ) → HasWidth n v → n ≤ c → place_at v c slot ≡ place.Absent
past v n c slot width l = elim (cases_Bool (slot == 0)) [
  | inl first ↦ let out : length v.first ≤ c = omega (arith, width.first) in ap (λ (b : Bool). get_or (if b then v.first else v.second) c place.Absent) first ∙ get_or_past v.first c place.Absent out
  | inr second ↦ let out : length v.second ≤ c = omega (arith, width.second) in ap (λ (b : Bool). get_or (if b then v.first else v.second) c place.Absent) second ∙ get_or_past v.second c place.Absent out
]

-- a meta that was seen is one of the width
pub meta_fits : (n : ℕ) (v : Places) → HasMetas n v → (c : ℕ) (m : Meta) → c < n → HasSealed v c m → IsMeta n m
meta_fits n v metas c m l has =
    let is : HasMetaOf n has.slot (place.Sealed m) = subst (λ (p : Place). HasMetaOf n has.slot p) has.sealed (metas.each c has.slot l has.in_pair) in
    is.0

module _ (n : ℕ) (v : Places) (width : HasWidth n v) (before now : ℕ → ℕ) where
  -- the least cloud that failed has raised its count
  pub least_rose : FailuresRose n before now v → (c : ℕ) → IsLeastFailed v c → Rose (before c) (now c)
  least_rose rose c least = rose.each c least.failed.slot (omega (arith, width.first, least.in_width)) least.failed.in_pair least.failed.failed

  -- no lower count has risen, where counts are exact
  pub lower_stay : OnlyFailuresRose before now v → (c : ℕ) → IsLeastFailed v c → (d : ℕ) → d < c → now d ≡ before d
  lower_stay only c least d l = only.each d (λ slot low failed. least.before d l (record { slot = slot; in_pair = low; failed = failed }))

  -- where no place failed, no count has risen
  pub all_stay : OnlyFailuresRose before now v → NoneFailed v → (c : ℕ) → now c ≡ before c
  all_stay only none c = only.each c (λ slot low failed. elim (cases_lt c n) [
    | inl l ↦ none c (omega (arith, width.first)) (record { slot = slot; in_pair = low; failed = failed })
    | inr out ↦ let no : place.Absent ≡ place.Failed = sym (past v n c slot width out) ∙ failed in cc
  ])
