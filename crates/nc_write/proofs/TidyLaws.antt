-- Tidying, over contents.
use Rattle.std.proofs.Common.{◌≡◌, ◌≢◌, ◌+◌, ◌-◌, ◌<◌, ◌≤◌, ◌%◌, ◌==◌, ℕ, zero, suc, Bool, true, false, if◌then◌else◌, Option, None, Some, List, [], ◌∷◌, ◌++◌, option_to_list, IfSome, refl, sym, ap, ◌∙◌, subst, arith, inl, inr, eq-eqb}
use Rattle.std.proofs.lemmas.Bool.{cases_lt}
use Rattle.std.proofs.lemmas.Bool.Decides.{eqb_tells}
use Rattle.nc_name.specs.declared.key.Key.{Key}
use Rattle.nc_name.specs.declared.key.Key.TheVariants as key
use Rattle.nc_name.specs.Keys.{Slots, name_of}
use Rattle.nc_name.specs.Names.{IsName}
use Rattle.nc_frame.specs.Frames.{Whole}
use Rattle.nc_meta.specs.declared.meta.Meta.{Meta}
use Rattle.nc_meta.specs.Metas.{generation_of}
use Rattle.nc_cloud.specs.declared.fleet.Erase.{Erase}
use Rattle.nc_cloud.specs.Contents.{ChangesAt, Contents, Fate, Store, Write}
use Rattle.nc_cloud.specs.Deciding.{AreAscending}
use Rattle.nc_cloud.specs.Fleet.{erasure, erasures}
use Rattle.nc_cloud.specs.Images.{Image, ImageCloud, Written, WrittenCloud, write_at}
use Rattle.nc_cloud.proofs.SomeRows.{ascend_some, some_in, some_more, some_out, some_written_in}
use Rattle.nc_state.specs.Clouds.{Clouds}
use Rattle.nc_state.specs.Commands.{RestsAt}
use Rattle.nc_state.specs.Holding.{HoldsIfAny, IsSettledOn, meta_key, meta_object}
use Rattle.nc_state.specs.Right.{HasChunkAt}
use Rattle.nc_state.specs.Rounds.{LeavesAtRest}
use Rattle.nc_state.specs.Rounds.LeavesAtRest.{erased, free}
use Rattle.nc_state.specs.Standing.{Entries}
use Rattle.nc_state.specs.Tidy.{IsTidy, counts}
use Rattle.nc_state.specs.Versions.{Version, meta_of}
use Rattle.nc_state.specs.Versions.Version.{Never, Removed, Stored}
use Rattle.nc_state.proofs.Alone.{AreOfName}
use Rattle.nc_state.proofs.CommandLaws.{stays_at_rest}
use Rattle.nc_state.proofs.Held.{object_whole}
use Rattle.nc_state.proofs.Keeping.{NoNewMetas}
use Rattle.nc_state.proofs.Wholes.{whole_fate}
use Rattle.nc_state.proofs.Images.{key_eq-Decides, round_image}
use Rattle.nc_write.specs.declared.part.Part.{Part}
use Rattle.nc_write.specs.declared.part.Part.TheVariants as part
use Rattle.nc_write.specs.Putting.{slot_after}
use Rattle.nc_write.specs.Tidying.{AreErasures, LeavesWhatCounts, all_parts, erasure_of, erasures_of, part_key}
use Rattle.nc_write.proofs.ChunkRounds.{right_still, untouched_by}
use Rattle.nc_write.proofs.PuttingLaws.{after_pair}

-- ---- what counts

apart : (a b : ℕ) → (a == b) ≡ false → b ≢ a
apart a b out same = elim (eqb_tells a b) [
  | inl here ↦ let wrong : true ≡ false = sym here.0 ∙ out in absurd cc
  | inr other ↦ other.1 (sym same)
]

-- each chunk of a version counts
chunk_counts : (name : List ℕ) (top : Option Meta) (x : Version) → meta_of x ≡ top → (c : ℕ) (place : Key) → HasChunkAt name x c place → counts top c place ≡ true
chunk_counts name top x is c (key.Meta other slot) has = absurd has
chunk_counts name top (Stored m v) is c (key.Chunk other slot row) has = subst (λ (o : Option Meta). counts o c (key.Chunk other slot row) ≡ true) is (eq-eqb _ _ (sym has.1))
chunk_counts name top Never is c (key.Chunk other slot row) has = absurd has
chunk_counts name top (Removed generation) is c (key.Chunk other slot row) has = absurd has

-- and so does its metadata
meta_counts : (name : List ℕ) (top : Option Meta) (m : Meta) → Some m ≡ top → (c : ℕ) → counts top c (meta_key name m) ≡ true
meta_counts name top m is c = subst (λ (o : Option Meta). counts o c (meta_key name m) ≡ true) is (eq-eqb (generation_of m % 2) (generation_of m % 2) refl)

not_its : (top : Option Meta) (c : ℕ) (other : List ℕ) (slot : ℕ) → counts top c (key.Meta other slot) ≡ false → IfSome top (λ m. slot ≢ generation_of m % 2)
not_its None c other slot out = tt
not_its (Some m) c other slot out = apart (generation_of m % 2) slot out

-- what doesn't count may be deleted at rest
goes : (n : ℕ) (D : Clouds) (name : List ℕ) (top : Option Meta) (x : Version) → meta_of x ≡ top → (c : ℕ) (place : Key) → name_of place ≡ name → counts top c place ≡ false → LeavesAtRest n D name x c place None
goes n D name top x is c (key.Meta other slot) named out =
    erased (record {
      slot = slot;
      at = ap (λ (o : List ℕ). key.Meta o slot) named;
      not_its = subst (λ (o : Option Meta). IfSome o (λ m. slot ≢ generation_of m % 2)) (sym is) (not_its top c other slot out);
      erases = refl;
    })
goes n D name top x is c (key.Chunk other slot row) named out =
    free (record {
      at = named;
      free = λ has. let wrong : true ≡ false = sym (chunk_counts name top x is c (key.Chunk other slot row) has) ∙ out in absurd cc;
      writes = tt;
    })

-- ---- the deletes of a part

-- what is whole after a delete was there before
whole_at : (w : Write) (old left : Store) → w.new ≡ None → ChangesAt w.key (λ o l. Fate o w.new l) old left → (place : Key) (bytes : List ℕ) (same : Bool) → (same ≡ true → place ≡ w.key) → (place ≡ w.key → same ≡ true)
    → left place ≡ Some bytes → Whole bytes → old place ≡ Some bytes
whole_at w old left none changes place bytes true is back there whole = elim (whole_fate (old w.key) w.new (left w.key) bytes changes.there (ap left (sym (is refl)) ∙ there) whole) [
  | inl was ↦ ap old (is refl) ∙ was
  | inr new ↦ let wrong : None ≡ Some bytes = sym none ∙ new in absurd cc
]
whole_at w old left none changes place bytes false is back there whole = sym (changes.others place (λ e. let wrong : false ≡ true = back e in cc)) ∙ there

whole_back : (o : Option Write) (old left : Store) → ((w : Write) → o ≡ Some w → w.new ≡ None) → ImageCloud o old left → (place : Key) (bytes : List ℕ) → left place ≡ Some bytes → Whole bytes → old place ≡ Some bytes
whole_back None old left none image place bytes there whole = sym (ap (λ (s : Store). s place) image) ∙ there
whole_back (Some w) old left none image place bytes there whole =
    let test = key_eq-Decides place w.key in
    whole_at w old left (none w refl) image place bytes _ test.0 test.1 there whole

entry_by : (b : Bool) (c : ℕ) (place : Key) (w : Write) → (if b then None else Some (record { cloud = c; key = place; new = None })) ≡ Some w → (b ≡ false) × (w ≡ record { cloud = c; key = place; new = None })
entry_by true c place w e = absurd cc
entry_by false c place w e = let is : record { cloud = c; key = place; new = None } ≡ w = cc in (refl, sym is)

part_name : (name : List ℕ) (top : Option Meta) (p : Part) (c : ℕ) → name_of (part_key name top p c) ≡ name
part_name name top (part.Metas slot) c = refl
part_name name top (part.Beside row) c = refl
part_name name top (part.Named row) c = refl

-- the deletes of one cloud more
pub erasures_more : {name : List ℕ} {top : Option Meta} {p : Part} {k : ℕ} {old new : List Erase} → AreErasures name top p k old → erasures new ≡ erasures old ++ option_to_list (erasure_of name top p k) → AreErasures name top p (k + 1) new
erasures_more {name} {top} {p} {k} was more = record { are = more ∙ ap (λ ps. ps ++ option_to_list (erasure_of name top p k)) was.are ∙ sym (some_more (erasure_of name top p) k) }

-- the delete of an object of the name that doesn't count
record IsErasure (name : List ℕ) (top : Option Meta) (c : ℕ) (w : Write) : Type 0 where
  pub at : w.cloud ≡ c
  pub named : name_of w.key ≡ name
  pub out : counts top c w.key ≡ false
  pub none : w.new ≡ None

module _ (n : ℕ) (name : List ℕ) (top : Option Meta) (p : Part) where
  erasure_is : (c : ℕ) (w : Write) → erasure_of name top p c ≡ Some w → IsErasure name top c w
  erasure_is c w e =
      let k : Key = part_key name top p c in
      let by = entry_by (counts top c k) c k w e in
      subst (IsErasure name top c) (sym by.1) (record { at = refl; named = part_name name top p c; out = by.0; none = refl })

  erasure_cloud : (c : ℕ) (w : Write) → erasure_of name top p c ≡ Some w → w.cloud ≡ c
  erasure_cloud c w e = (erasure_is c w e).at

  -- each entry of the round is one
  entry_is : (c : ℕ) (w : Write) → write_at (erasures_of n name top p) c ≡ Some w → IsErasure name top c w
  entry_is c w found = elim (cases_lt c n) [
    | inl l ↦ erasure_is c w (sym (some_in (erasure_of name top p) erasure_cloud 0 n c (omega arith) (omega arith)) ∙ found)
    | inr out ↦ let wrong : None ≡ Some w = sym (some_out (erasure_of name top p) erasure_cloud 0 n c (omega arith)) ∙ found in absurd cc
  ]

  pub erasures_ascend : (erases : List Erase) → AreErasures name top p n erases → AreAscending (λ e. e.cloud) n erases
  erasures_ascend erases made = ascend_some (λ (w : Write). w.cloud) (erasure_of name top p) erasure_cloud erasure n erases made.are

  pub erasures_named : AreOfName name (erasures_of n name top p)
  erasures_named = record { each = λ c w found. (entry_is c w found).named }

  -- what counts isn't touched
  what_counts : (F G : Contents) → Image (erasures_of n name top p) F G → (c : ℕ) (place : Key) → counts top c place ≡ true → G c place ≡ F c place
  what_counts F G image c place here =
      untouched_by (erasures_of n name top p) F G c place
      (λ w found same. let wrong : true ≡ false = sym here ∙ ap (counts top c) same ∙ (entry_is c w found).out in absurd cc) image

  still_held : (F G : Contents) → Image (erasures_of n name top p) F G → (c : ℕ) (o : Option Meta) → o ≡ top → HoldsIfAny n F name c o → HoldsIfAny n G name c o
  still_held F G image c None is held = tt
  still_held F G image c (Some m) is held = record { is_meta = held.is_meta; stands = what_counts F G image c (meta_key name m) (meta_counts name top m is c) ∙ held.stands }

  still_rests : (S : Entries) (D : Clouds) (F G : Contents) (x : Version) → IsName name → meta_of x ≡ top → Image (erasures_of n name top p) F G → RestsAt n F S D name x → RestsAt n G S D name x
  still_rests S D F G x is_name is image rests =
      stays_at_rest n F G S D name x is_name rests
      (round_image (erasures_of n name top p) (λ c w l found.
      let e : IsErasure name top c w = entry_is c w found in
      subst (λ (o : Option (List ℕ)). LeavesAtRest n D name x c w.key o) (sym e.none) (goes n D name top x is c w.key e.named e.out)) image)

  -- no metadata is new
  no_new_metas : (F G : Contents) → 4 ≤ n → n ≤ 10 → IsName name → Image (erasures_of n name top p) F G → NoNewMetas n F G name
  no_new_metas F G wide narrow is_name image c m l h = record {
    is_meta = h.is_meta;
    stands = whole_back (write_at (erasures_of n name top p) c) (F c) (G c) (λ w found. (entry_is c w found).none) (image.each c) (meta_key name m) (meta_object n name c m) h.stands
        (object_whole n name c m wide narrow is_name l h.is_meta);
  }

  still_settled : (F G : Contents) → 4 ≤ n → n ≤ 10 → IsName name → Image (erasures_of n name top p) F G → (o : Option Meta) → o ≡ top → IsSettledOn n F name o → IsSettledOn n G name o
  still_settled F G wide narrow is_name image None is on = record { none = λ c k l h. on.none c k l (no_new_metas F G wide narrow is_name image c k l h) }
  still_settled F G wide narrow is_name image (Some m) is on = record {
    each = λ c l. still_held F G image c (Some m) is (on.each c l);
    highest = λ c k l h. on.highest c k l (no_new_metas F G wide narrow is_name image c k l h);
  }

  pub round_leaves : (F G : Contents) → IsName name → Image (erasures_of n name top p) F G → LeavesWhatCounts n name top F G
  round_leaves F G is_name image = record {
    rests = λ S D x is rests. still_rests S D F G x is_name is image rests;
    held = λ x is held c l. still_held F G image c (meta_of x) is (held c l);
    right = λ x c is right place has. right_still n F G x c place (what_counts F G image c place (chunk_counts name top x is c place has)) (right place has);
    settled = λ wide narrow on. still_settled F G wide narrow is_name image top refl on;
  }

pub leaves_none : (n : ℕ) (name : List ℕ) (top : Option Meta) (F : Contents) → LeavesWhatCounts n name top F F
leaves_none n name top F = record { rests = λ S D x is rests. rests; held = λ x is held. held; right = λ x c is right. right; settled = λ wide narrow on. on }

pub leaves_then : (n : ℕ) (name : List ℕ) (top : Option Meta) (F G H : Contents) → LeavesWhatCounts n name top F G → LeavesWhatCounts n name top G H → LeavesWhatCounts n name top F H
leaves_then n name top F G H a b = record {
  rests = λ S D x is rests. b.rests S D x is (a.rests S D x is rests);
  held = λ x is held. b.held x is (a.held x is held);
  right = λ x c is right. b.right x c is (a.right x c is right);
  settled = λ wide narrow on. b.settled wide narrow (a.settled wide narrow on);
}

-- ---- what is gone

-- what doesn't count of a part is gone
pub record PartGone (n : ℕ) (G : Contents) (name : List ℕ) (top : Option Meta) (p : Part) : Type 0 where
  pub gone : (c : ℕ) → c < n → counts top c (part_key name top p c) ≡ false → G c (part_key name top p c) ≡ None

none_at : (w : Write) (old left : Store) → w.new ≡ None → ChangesAt w.key (λ o l. l ≡ w.new) old left → (place : Key) (same : Bool) → (same ≡ true → place ≡ w.key) → (place ≡ w.key → same ≡ true)
    → old place ≡ None → left place ≡ None
none_at w old left none changes place true is back was = ap left (is refl) ∙ changes.there ∙ none
none_at w old left none changes place false is back was = changes.others place (λ e. let wrong : false ≡ true = back e in cc) ∙ was

none_still : (o : Option Write) (old left : Store) → ((w : Write) → o ≡ Some w → w.new ≡ None) → WrittenCloud o old left → (place : Key) → old place ≡ None → left place ≡ None
none_still None old left none written place was = ap (λ (s : Store). s place) written ∙ was
none_still (Some w) old left none written place was =
    let test = key_eq-Decides place w.key in
    none_at w old left (none w refl) written place _ test.0 test.1 was

module _ (n : ℕ) (name : List ℕ) (top : Option Meta) (p : Part) (F G : Contents) (written : Written (erasures_of n name top p) F G) where
  -- nothing new is there
  pub still_none : (c : ℕ) (place : Key) → F c place ≡ None → G c place ≡ None
  still_none c place was =
      none_still (write_at (erasures_of n name top p) c) (F c) (G c) (λ w found. (entry_is n name top p c w found).none) (written.each c) place was

  pub part_gone : PartGone n G name top p
  part_gone = record {
    gone = λ c l out.
        let k : Key = part_key name top p c in
        let at : WrittenCloud (erasure_of name top p c) (F c) (G c) =
        some_written_in (erasure_of name top p) (erasure_cloud n name top p) n (erasures_of n name top p) refl F G written c l in
        let there : WrittenCloud (Some (record { cloud = c; key = k; new = None })) (F c) (G c) =
        subst (λ (b : Bool). WrittenCloud (if b then None else Some (record { cloud = c; key = k; new = None })) (F c) (G c)) out at in
        there.there;
  }

pub still_gone : (n : ℕ) (name : List ℕ) (top : Option Meta) (p : Part) (F G : Contents) → ((c : ℕ) (place : Key) → F c place ≡ None → G c place ≡ None) → PartGone n F name top p → PartGone n G name top p
still_gone n name top p F G still was = record { gone = λ c l out. still c (part_key name top p c) (was.gone c l out) }

-- ---- all parts

abbrev pub PartsGone : ℕ → Contents → List ℕ → Option Meta → List Part → Type 0
PartsGone n G name top [] = Unit {0}
PartsGone n G name top (p ∷ parts) = PartGone n G name top p × PartsGone n G name top parts

module _ (n : ℕ) (G : Contents) (name : List ℕ) (top : Option Meta) (gone : PartsGone n G name top all_parts) where
  chunk_gone : (row : ℕ) → PartGone n G name top (part.Beside row) → PartGone n G name top (part.Named row) → (c slot : ℕ) → c < n → slot < 2
      → counts top c (key.Chunk name slot row) ≡ false → G c (key.Chunk name slot row) ≡ None
  chunk_gone row beside named c slot l low = elim (eqb_tells slot (slot_after top c)) [
    | inl same ↦ subst (λ s. counts top c (key.Chunk name s row) ≡ false → G c (key.Chunk name s row) ≡ None) (sym same.1) (beside.gone c l)
    | inr other ↦
        let differs : slot ≢ slot_after top c = other.1 in
        let pair : slot_after top c < 2 = after_pair top c in
        let is : 1 - slot_after top c ≡ slot = omega arith in
        subst (λ s. counts top c (key.Chunk name s row) ≡ false → G c (key.Chunk name s row) ≡ None) is (named.gone c l)
  ]

  object_gone : (c : ℕ) (place : Key) → c < n → name_of place ≡ name → Slots place → counts top c place ≡ false → G c place ≡ None
  object_gone c (key.Meta other zero) l named low = subst (λ (o : List ℕ). counts top c (key.Meta o 0) ≡ false → G c (key.Meta o 0) ≡ None) (sym named) (gone.0.gone c l)
  object_gone c (key.Meta other (suc zero)) l named low = subst (λ (o : List ℕ). counts top c (key.Meta o 1) ≡ false → G c (key.Meta o 1) ≡ None) (sym named) (gone.1.0.gone c l)
  object_gone c (key.Meta other (suc (suc slot))) l named low = absurd (omega (arith, low))
  object_gone c (key.Chunk other slot zero) l named low =
      subst (λ (o : List ℕ). counts top c (key.Chunk o slot 0) ≡ false → G c (key.Chunk o slot 0) ≡ None) (sym named) (chunk_gone 0 gone.1.1.0 gone.1.1.1.1.0 c slot l low.0)
  object_gone c (key.Chunk other slot (suc zero)) l named low =
      subst (λ (o : List ℕ). counts top c (key.Chunk o slot 1) ≡ false → G c (key.Chunk o slot 1) ≡ None) (sym named) (chunk_gone 1 gone.1.1.1.0 gone.1.1.1.1.1.0 c slot l low.0)
  object_gone c (key.Chunk other slot (suc (suc row))) l named low = let high = low.1 in absurd (omega (arith, high))

  by_test : (b : Bool) → (b ≡ false → ⊥) → b ≡ true
  by_test true never = refl
  by_test false never = absurd (never refl)

  pub tidy_by : IsTidy n G name top
  tidy_by = record {
    all = λ c place bytes l named low is.
        by_test (counts top c place) (λ out. let wrong : None ≡ Some bytes = sym (object_gone c place l named low out) ∙ is in cc);
  }
