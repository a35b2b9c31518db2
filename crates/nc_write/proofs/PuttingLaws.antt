-- The metadata of a put.
use Rattle.std.proofs.Common.{◌≡◌, ◌<◌, ◌≤◌, ◌+◌, ◌*◌, ◌/◌, ◌%◌, ◌^◌, ◌==◌, ℕ, Bool, true, false, if◌then◌else◌, Option, None, Some, List, [], length, get_or, map, slice_index, slice_index_or, replicate, refl, sym, ap, ◌∙◌, subst, arith, inl, inr}
use Rattle.std.proofs.lemmas.Bool.{cases_lt, cond_below, cond_above}
use Rattle.std.proofs.lemmas.List.FromFn.{fill_by_all, get_or-map-range_with_len, length-map-range_with_len}
use Rattle.std.proofs.Math.ListN.{get_or-eq_default}
use Rattle.std.specs.List.{range_with_len}
use Rattle.sha2.specs.Sha256.{sha256}
use Rattle.nc_bytes.specs.Bytes.{AreBytes, AreZeroPast}
use Rattle.nc_native.specs.Native.{combination}
use Rattle.nc_code.specs.Codes.{code_row}
use Rattle.nc_code.specs.Good.{IsGood, plan_of}
use Rattle.nc_code.specs.Parts.{CodeParts, IsCode, IsPlan, IsTable}
use Rattle.nc_code.specs.declared.plan.Witnesses.{Witnesses}
use Rattle.nc_meta.specs.declared.meta.Live.{Live}
use Rattle.nc_meta.specs.declared.meta.Meta.{Meta}
use Rattle.nc_meta.specs.declared.meta.Meta.TheVariants as meta
use Rattle.nc_meta.specs.Metas.{IsLive}
use Rattle.nc_meta.specs.Parts.{IsGeneration}
use Rattle.nc_mix.specs.Mixing.{AreChunksOf}
use Rattle.nc_nextloss.specs.GoodCodes.{GoodParts}
use Rattle.nc_state.specs.Commands.{IsNext}
use Rattle.nc_state.specs.Holding.{top_generation}
use Rattle.nc_state.specs.Right.{free_slot}
use Rattle.nc_state.specs.Versions.{Version, IsValid, meta_of}
use Rattle.nc_state.specs.Versions.Version.{Stored}
use Rattle.nc_write.specs.Marks.{AreMarks}
use Rattle.nc_write.specs.declared.sealing.VersionWrites.{VersionWrites}
use Rattle.nc_write.specs.Putting.{IsPutOf, file_marks, mark_of, next_meta, next_slot, next_slots, put_meta, slot_after}

-- ---- slots

bit : (b : Bool) → (if b then 1 else 0) < 2
bit true = omega arith
bit false = omega arith

free_pair : (m : Meta) (c : ℕ) → free_slot m c < 2
free_pair (meta.Live m) c = bit (slice_index m.slots c == 0)
free_pair (meta.Gone generation) c = omega arith

pub after_pair : (top : Option Meta) (c : ℕ) → slot_after top c < 2
after_pair None c = omega arith
after_pair (Some m) c = free_pair m c

next_pair : (n : ℕ) (top : Option Meta) (c : ℕ) → next_slot n top c < 2
next_pair n top c = elim (cases_lt c n) [
  | inl low ↦ subst (λ k. k < 2) (cond_below c n (slot_after top c) 0 low) (after_pair top c)
  | inr high ↦ subst (λ k. k < 2) (cond_above c n (slot_after top c) 0 0 high refl) (omega arith)
]

slot_at : (n : ℕ) (top : Option Meta) (c : ℕ) → c < 10 → slice_index (next_slots n top) c ≡ next_slot n top c
unfolding next_slots
slot_at n top c l = get_or-map-range_with_len (next_slot n top) 0 10 c c 0 l (omega arith)

slot_past : (n : ℕ) (top : Option Meta) (c : ℕ) → 10 ≤ c → slice_index (next_slots n top) c ≡ 0
unfolding next_slots
slot_past n top c l = get_or-eq_default (next_slots n top) 0 (let long : length (map (next_slot n top) (range_with_len 0 10)) ≡ 10 = length-map-range_with_len (next_slot n top) 0 10 in omega (arith, long, l))

-- the slot of a cloud is the one after
pub slot_is : (n : ℕ) (top : Option Meta) (c : ℕ) → n ≤ 10 → c < n → slice_index (next_slots n top) c ≡ slot_after top c
slot_is n top c narrow l = slot_at n top c (omega arith) ∙ sym (cond_below c n (slot_after top c) 0 l)

slots_bits : (n : ℕ) (top : Option Meta) (c : ℕ) → slice_index (next_slots n top) c < 2
slots_bits n top c = elim (cases_lt c 10) [
  | inl low ↦ subst (λ k. k < 2) (sym (slot_at n top c low)) (next_pair n top c)
  | inr high ↦ subst (λ k. k < 2) (sym (slot_past n top c high)) (omega arith)
]

slots_past : (n : ℕ) (top : Option Meta) (c : ℕ) → n ≤ c → slice_index (next_slots n top) c ≡ 0
slots_past n top c l = elim (cases_lt c 10) [
  | inl low ↦ slot_at n top c low ∙ sym (cond_above c n (slot_after top c) 0 0 l refl)
  | inr high ↦ slot_past n top c high
]

-- the slots of so many clouds are written
pub slots_all : (n : ℕ) (top : Option Meta) (slots : List ℕ) → length slots ≡ 10 → ((c : ℕ) → c < n → slice_index slots c ≡ slot_after top c) → ((c : ℕ) → n ≤ c → slice_index slots c ≡ 0) → slots ≡ next_slots n top
unfolding next_slots
slots_all n top slots long low high =
    fill_by_all (next_slot n top) slots 10 0 long (λ c l.
    elim (cases_lt c n) [
      | inl below ↦ low c below ∙ cond_below c n (slot_after top c) 0 below
      | inr past ↦ cond_above c n (slot_after top c) 0 (slice_index slots c) past (high c past)
    ])

-- ---- marks

module _ (good : GoodParts) (v : List ℕ) (chunks marks : List (List ℕ)) (are : AreChunksOf good.code v chunks) (of : AreMarks chunks marks) where
  abbrev n : ℕ
  n = good.code.width

  -- chunk i is that of its cloud and row
  chunk_is : (i : ℕ) → i < 2 * n → get_or chunks i [] ≡ combination (code_row good.code (i / 2) (i % 2)) v n
  chunk_is i l =
      let place : i ≡ 2 * (i / 2) + i % 2 = omega arith in
      let cloud : i / 2 < n = omega arith in
      let pair : i % 2 < 2 = omega arith in
      ap (λ k. get_or chunks k []) place ∙ are.each (i / 2) (i % 2) cloud pair

  -- each mark is that of its row's combination
  mark_is : (i : ℕ) → i < 20 → get_or marks i [] ≡ mark_of n good.code v i
  mark_is i l = elim (cases_lt i (2 * n)) [
    | inl low ↦ of.digests i (omega (arith, are.count)) ∙ ap sha256 (chunk_is i low) ∙ cond_below i (2 * n) _ _ low
    | inr high ↦ cond_above i (2 * n) _ (replicate 32 0) _ high (of.zeros i (omega (arith, are.count)) l)
  ]

  pub marks_are : marks ≡ file_marks n good.code v
  unfolding file_marks
  marks_are = fill_by_all (mark_of n good.code v) marks 20 [] of.count mark_is

-- the mark of a row of a cloud
mark_at : (n : ℕ) (code : CodeParts) (v : List ℕ) (c r : ℕ) → n ≤ 10 → c < n → r < 2 → slice_index_or (file_marks n code v) (2 * c + r) [] ≡ sha256 (combination (code_row code c r) v n)
unfolding file_marks
mark_at n code v c r narrow l pair =
    let low : 2 * c + r < 2 * n = omega arith in
    let cloud : (2 * c + r) / 2 ≡ c = omega arith in
    let same : (2 * c + r) % 2 ≡ r = omega arith in
    get_or-map-range_with_len (mark_of n code v) 0 20 (2 * c + r) (2 * c + r) [] (omega arith) (omega arith)
    ∙ sym (cond_below (2 * c + r) (2 * n) (sha256 (combination (code_row code ((2 * c + r) / 2) ((2 * c + r) % 2)) v n)) (replicate 32 0) low)
    ∙ ap (λ k. sha256 (combination (code_row code k ((2 * c + r) % 2)) v n)) cloud
    ∙ ap (λ k. sha256 (combination (code_row code c k) v n)) same

-- ---- the metadata can be stored

-- what the type of plans keeps
pub record HasPlans (w : Witnesses) : Type 0 where
  pub count : length w.plans ≡ 10
  pub plans : (lost : ℕ) → lost < 10 → IsPlan (plan_of w lost)

slots_count : (n : ℕ) (top : Option Meta) → length (next_slots n top) ≡ 10
unfolding next_slots
slots_count n top = length-map-range_with_len (next_slot n top) 0 10

pub next_is_live : (top : Option Meta) (good : GoodParts) (len : ℕ) (marks : List (List ℕ)) → IsGeneration (top_generation top + 1) → len ≤ 2 ^ 26 → IsCode good.code → IsGood good.code good.witnesses
    → HasPlans good.witnesses → IsTable 20 32 marks → AreZeroPast (2 * good.code.width) marks → IsLive good.code.width (next_meta good.code.width top good len marks)
next_is_live top good len marks last short kept is has shape past =
    record {
      generation = last;
      len = short;
      width = refl;
      code = kept;
      slot_count = slots_count good.code.width top;
      slots = slots_bits good.code.width top;
      slots_past = slots_past good.code.width top;
      marks = shape;
      marks_past = past;
      witnesses = record { count = has.count; plans = λ lost l. has.plans lost (omega (arith, l, kept.narrow)); bare = is.bare; past = is.past };
    }

-- and of the file itself it is the metadata of a put
pub put_is : (n : ℕ) (top : Option Meta) (good : GoodParts) (v : List ℕ) (marks : List (List ℕ)) → marks ≡ file_marks n good.code v → next_meta n top good (length v) marks ≡ put_meta n top good v
unfolding put_meta
put_is n top good v marks is = ap (next_meta n top good (length v)) is

-- it is that of a valid version
pub valid_by : (n : ℕ) (top : Option Meta) (good : GoodParts) (v : List ℕ) → n ≤ 10 → good.code.width ≡ n → AreBytes v → IsGood good.code good.witnesses → IsLive n (put_meta n top good v) → IsValid n (Stored (put_meta n top good v) v)
unfolding put_meta
valid_by n top good v narrow width bytes is live = record {
  stored = live;
  bytes = bytes;
  len = refl;
  mds = is.mds;
  witnesses = λ lost l. is.witness lost (omega (arith, l, width));
  marks = λ c r l pair. mark_at n good.code v c r narrow l pair;
}

generation_is : (n : ℕ) (top : Option Meta) (good : GoodParts) (v : List ℕ) → (put_meta n top good v).generation ≡ top_generation top + 1
unfolding put_meta
generation_is n top good v = refl

-- the slots of a put are free
pub put_slot : (n : ℕ) (top : Option Meta) (good : GoodParts) (v : List ℕ) (c : ℕ) → n ≤ 10 → c < n → slice_index (put_meta n top good v).slots c ≡ slot_after top c
unfolding put_meta
put_slot n top good v c narrow l = slot_is n top c narrow l

-- it can follow each version with that metadata
pub put_next : (n : ℕ) (name : List ℕ) (top : Option Meta) (good : GoodParts) (v : List ℕ) (w : VersionWrites) → IsPutOf n name top good v w → (x : Version) → meta_of x ≡ top
    → IsNext n x (Some (Stored w.live v))
put_next n name top good v w of x of_x =
    (of.valid, ap (λ (m : Live). m.generation) of.is ∙ generation_is n top good v ∙ ap (λ (o : Option Meta). top_generation o + 1) (sym of_x))
