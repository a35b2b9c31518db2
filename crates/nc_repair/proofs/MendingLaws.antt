-- What the repair of a file makes.
use Rattle.std.proofs.Common.{◌≡◌, ◌<◌, ◌≤◌, ◌+◌, ◌*◌, ◌==◌, ℕ, Bool, true, false, if◌then◌else◌, Some, List, [], length, get_or, slice_index, slice_index_or, slice_set, All, inl, inr, refl, sym, ap, ◌∙◌, subst, arith}
use Rattle.std.proofs.lemmas.Bool.Decides.{eqb_tells}
use Rattle.std.proofs.lemmas.List.{get_or-set_other, get_or-set_same, length-set}
use Rattle.sha2.specs.Sha256.{sha256}
use Rattle.nc_bytes.specs.Bytes.{AreBytes, AreZeroPast, IsZeroPast}
use Rattle.nc_native.specs.Native.{combination}
use Rattle.nc_code.specs.Codes.{IsBare, code_row, repaired}
use Rattle.nc_code.specs.Good.{IsGood, plan_of}
use Rattle.nc_code.specs.Parts.{CodeParts, IsCode, IsTable, PlanParts}
use Rattle.nc_code.specs.declared.plan.Witnesses.{Witnesses}
use Rattle.nc_meta.specs.declared.meta.Live.{Live}
use Rattle.nc_meta.specs.declared.meta.Meta.TheVariants as meta
use Rattle.nc_meta.specs.Metas.{IsLive}
use Rattle.nc_meta.specs.Parts.{AreBits, IsGeneration}
use Rattle.nc_nextloss.specs.GoodCodes.{GoodParts}
use Rattle.nc_state.specs.Mending.{IsMended}
use Rattle.nc_state.specs.Right.{free_slot}
use Rattle.nc_state.specs.Versions.{IsValid}
use Rattle.nc_state.specs.Versions.Version.{Stored}
use Rattle.nc_state.proofs.ChunkLaws.{mended_is_valid}
use Rattle.nc_write.specs.declared.sealing.Placed.{Placed}
use Rattle.nc_write.specs.declared.sealing.VersionWrites.{VersionWrites}
use Rattle.nc_write.specs.Writes.{chunk_of}
use Rattle.nc_write.proofs.PuttingLaws.{HasPlans}
use Rattle.nc_mix.specs.declared.pieces.Pair.{Pair}
use Rattle.nc_repair.specs.Mending.{IsMadeOf, IsMendOf, MendsWith, alone_at, mended_by, mended_meta}

-- ---- tables of which one row is set

bits_set : (xs : List ℕ) (i y : ℕ) → AreBits xs → i < length xs → y < 2 → AreBits (slice_set xs i y)
bits_set xs i y bits low pair j = elim (eqb_tells j i) [
  | inl here ↦ subst (λ (k : ℕ). slice_index (slice_set xs i y) k < 2) (sym here.1) (subst (λ (z : ℕ). z < 2) (sym (get_or-set_same xs i y 0 low)) pair)
  | inr other ↦ subst (λ (z : ℕ). z < 2) (sym (get_or-set_other xs i j y 0 other.1)) (bits j)
]

past_set : (n : ℕ) (xs : List ℕ) (i y : ℕ) → IsZeroPast n xs → i < n → IsZeroPast n (slice_set xs i y)
past_set n xs i y past low j high = get_or-set_other xs i j y 0 (omega arith) ∙ past j high

rows_past_set : (n : ℕ) (t : List (List ℕ)) (k : ℕ) (x : List ℕ) → AreZeroPast n t → k < n → AreZeroPast n (slice_set t k x)
rows_past_set n t k x past low i j high = ap (λ (row : List ℕ). slice_index row j) (get_or-set_other t k i x [] (omega arith)) ∙ past i j high

table_set : (rows width : ℕ) (t : List (List ℕ)) (k : ℕ) (x : List ℕ) → IsTable rows width t → k < rows → length x ≡ width → AreBytes x → IsTable rows width (slice_set t k x)
table_set rows width t k x is low long bytes =
    let within : k < length t = omega (arith, is.count, low) in
    record {
      count = length-set t k x ∙ is.count;
      widths = λ i l. elim (eqb_tells i k) [
        | inl here ↦ subst (λ (j : ℕ). length (slice_index_or (slice_set t k x) j []) ≡ width) (sym here.1) (ap length (get_or-set_same t k x [] within) ∙ long)
        | inr other ↦ ap length (get_or-set_other t k i x [] other.1) ∙ is.widths i l
      ];
      bytes = λ i. elim (eqb_tells i k) [
        | inl here ↦ subst (λ (j : ℕ). AreBytes (slice_index_or (slice_set t k x) j [])) (sym here.1) (subst (λ (row : List ℕ). AreBytes row) (sym (get_or-set_same t k x [] within)) bytes)
        | inr other ↦ subst (λ (row : List ℕ). AreBytes row) (sym (get_or-set_other t k i x [] other.1)) (is.bytes i)
      ];
    }

-- ---- the metadata

bit : (b : Bool) → (if b then 1 else 0) < 2
bit true = omega arith
bit false = omega arith

pub mended_built : (i : ℕ) (old : Live) (good : GoodParts) (zero one x y : List ℕ) (generation : ℕ) (code : CodeParts) (slots : List ℕ) (marks : List (List ℕ)) (w : Witnesses)
    → generation ≡ old.generation + 1 → code ≡ good.code → slots ≡ slice_set old.slots i (free_slot (meta.Live old) i) → marks ≡ slice_set (slice_set old.marks (2 * i) x) (2 * i + 1) y → x ≡ zero → y ≡ one → w ≡ good.witnesses
    → record { generation = generation; len = old.len; code = code; slots = slots; marks = marks; witnesses = Some w } ≡ mended_by i old good zero one
unfolding mended_by
mended_built i old good zero one x y generation code slots marks w g c s m zero_is one_is p =
    let live : ℕ → CodeParts → List ℕ → List (List ℕ) → Witnesses → Live = λ a b d e f. record { generation = a; len = old.len; code = b; slots = d; marks = e; witnesses = Some f } in
    let renewed : marks ≡ slice_set (slice_set old.marks (2 * i) zero) (2 * i + 1) one = m ∙ (λ k. slice_set (slice_set old.marks (2 * i) (zero_is k)) (2 * i + 1) (one_is k)) in
    λ k. live (g k) (c k) (s k) (renewed k) (p k)

pub mended_is_live : (n i : ℕ) (old : Live) (good : GoodParts) (zero one : List ℕ) → IsLive n old → IsGeneration (old.generation + 1) → i < n → good.code.width ≡ n → IsCode good.code → IsGood good.code good.witnesses
    → HasPlans good.witnesses → AreBytes zero → length zero ≡ 32 → AreBytes one → length one ≡ 32 → IsLive n (mended_by i old good zero one)
unfolding mended_by
mended_is_live n i old good zero one live last low width kept is has zero_bytes zero_long one_bytes one_long =
    let narrow : n ≤ 10 = omega (arith, kept.narrow, width) in
    record {
      generation = last;
      len = live.len;
      width = width;
      code = kept;
      slot_count = length-set old.slots i (free_slot (meta.Live old) i) ∙ live.slot_count;
      slots = bits_set old.slots i (free_slot (meta.Live old) i) live.slots (omega (arith, live.slot_count, narrow)) (bit (slice_index old.slots i == 0));
      slots_past = past_set n old.slots i (free_slot (meta.Live old) i) live.slots_past low;
      marks = table_set 20 32 (slice_set old.marks (2 * i) zero) (2 * i + 1) one (table_set 20 32 old.marks (2 * i) zero live.marks (omega arith) zero_long zero_bytes) (omega arith) one_long one_bytes;
      marks_past = rows_past_set (2 * n) (slice_set old.marks (2 * i) zero) (2 * i + 1) one (rows_past_set (2 * n) old.marks (2 * i) zero live.marks_past (omega arith)) (omega arith);
      witnesses = record {
        count = has.count;
        plans = λ lost l. has.plans lost (omega (arith, l, narrow));
        bare = λ lost l. subst (λ (k : ℕ). IsBare k lost (plan_of good.witnesses lost)) width (is.bare lost (omega (arith, l, width)));
        past = λ lost l. is.past lost (omega (arith, l, width));
      };
    }

pub mended_is_mended : (i : ℕ) (plan : PlanParts) (old : Live) (good : GoodParts) (zero one : List ℕ) → good.code ≡ repaired old.code i plan → IsMended i plan old (mended_by i old good zero one)
unfolding mended_by
mended_is_mended i plan old good zero one code = record {
  generation = refl;
  len = refl;
  code = code;
  slots = refl;
  marks = λ k first second. get_or-set_other (slice_set old.marks (2 * i) zero) (2 * i + 1) k one [] second ∙ get_or-set_other old.marks (2 * i) k zero [] first;
}

-- the file is as long as before
pub len_stays : (i : ℕ) (old : Live) (good : GoodParts) (zero one : List ℕ) → (mended_by i old good zero one).len ≡ old.len
unfolding mended_by
len_stays i old good zero one = refl

-- the marks of the repaired cloud are new
pub marks_new : (i : ℕ) (old : Live) (good : GoodParts) (zero one : List ℕ) → 2 * i + 1 < length old.marks
    → (slice_index_or (mended_by i old good zero one).marks (2 * i + 0) [] ≡ zero) × (slice_index_or (mended_by i old good zero one).marks (2 * i + 1) [] ≡ one)
unfolding mended_by
marks_new i old good zero one low =
    let none : 2 * i + 0 ≡ 2 * i = omega arith in
    let long : 2 * i + 1 < length (slice_set old.marks (2 * i) zero) = omega (arith, length-set old.marks (2 * i) zero, low) in (
      ap (λ k. slice_index_or (slice_set (slice_set old.marks (2 * i) zero) (2 * i + 1) one) k []) none
          ∙ get_or-set_other (slice_set old.marks (2 * i) zero) (2 * i + 1) (2 * i) one [] (omega arith) ∙ get_or-set_same old.marks (2 * i) zero [] (omega (arith, low)),
      get_or-set_same (slice_set old.marks (2 * i) zero) (2 * i + 1) one [] long,
    )

-- the code has the same width
pub width_of : (n i : ℕ) (plan : PlanParts) (old : Live) (good : GoodParts) → good.code ≡ repaired old.code i plan → IsLive n old → good.code.width ≡ n
unfolding repaired
width_of n i plan old good code live = ap (λ (k : CodeParts). k.width) code ∙ live.width

-- ---- of a file

on_alone : (P : Placed → Type 0) (i : ℕ) (payload : List ℕ) → P (record { cloud = i; chunk = payload }) → All P (alone_at i payload)
on_alone P i payload here k d l =
    let first : k ≡ 0 = omega (arith, l) in
    subst (λ j. P (get_or (alone_at i payload) j d)) (sym first) here

module _ (n i : ℕ) (old : Live) (plan : PlanParts) (good : GoodParts) (v : List ℕ) (code : good.code ≡ repaired old.code i plan) (low : i < n) (live : IsLive n old) (is : IsGood good.code good.witnesses) where
  mended_valid : IsLive n (mended_meta n i old good v) → IsValid n (Stored old v) → IsValid n (Stored (mended_meta n i old good v) v)
  unfolding mended_by
  mended_valid fits valid =
      let narrow : n ≤ 10 = omega (arith, fits.code.narrow, fits.width) in
      let new = marks_new i old good (sha256 (combination (code_row good.code i 0) v n)) (sha256 (combination (code_row good.code i 1) v n)) (omega (arith, live.marks.count, low, narrow)) in
      mended_is_valid n i plan old (mended_meta n i old good v) v (mended_is_mended i plan old good _ _ code) fits is.mds
      (λ lost l. is.witness lost (omega (arith, l, width_of n i plan old good code live)))
      (λ r pair. elim (eqb_tells r 0) [
        | inl here ↦ subst (λ k. slice_index_or (mended_meta n i old good v).marks (2 * i + k) [] ≡ sha256 (combination (code_row good.code i k) v n)) (sym here.1) new.0
        | inr other ↦
            let last : r ≡ 1 = omega (arith, pair, other.1) in
            subst (λ k. slice_index_or (mended_meta n i old good v).marks (2 * i + k) [] ≡ sha256 (combination (code_row good.code i k) v n)) (sym last) new.1
      ]) valid

  generation_more : (mended_meta n i old good v).generation ≡ old.generation + 1
  unfolding mended_by
  generation_more = refl

  code_is : (mended_meta n i old good v).code ≡ good.code
  unfolding mended_by
  code_is = refl

  -- made of the file's own chunks, it is the repair of the file
  pub made_of_file : (name zero one : List ℕ) (w : VersionWrites) → IsMadeOf n name i old good zero one w → zero ≡ combination (code_row good.code i 0) v n → one ≡ combination (code_row good.code i 1) v n
      → IsValid n (Stored old v) → IsMendOf n name i old v plan good w
  made_of_file name zero one w of first second valid =
      let is_meta : w.live ≡ mended_meta n i old good v = of.is ∙ (λ k. mended_by i old good (sha256 (first k)) (sha256 (second k))) in
      let same : w.live.code ≡ good.code = ap (λ (m : Live). m.code) is_meta ∙ code_is in
      record {
        is = is_meta;
        mended = subst (λ (m : Live). IsMended i plan old m) (sym is_meta) (mended_is_mended i plan old good _ _ code);
        next = (
          subst (λ (m : Live). IsValid n (Stored m v)) (sym is_meta) (mended_valid (subst (λ (m : Live). IsLive n m) is_meta of.fits) valid),
          ap (λ (m : Live). m.generation) is_meta ∙ generation_more,
        );
        made = record {
          zeros = alone_at i zero;
          ones = alone_at i one;
          made = of.made;
          at = refl;
          of_0 = on_alone (λ x. x.chunk ≡ chunk_of n w.live v 0 x.cloud) i zero (first ∙ ap (λ (k : CodeParts). combination (code_row k i 0) v n) (sym same));
          of_1 = on_alone (λ x. x.chunk ≡ chunk_of n w.live v 1 x.cloud) i one (second ∙ ap (λ (k : CodeParts). combination (code_row k i 1) v n) (sym same));
        };
      }

-- what is made of a pair
pub mends_with : (n i : ℕ) (name : List ℕ) (old : Live) (plan : PlanParts) (good : GoodParts) (pair : Pair) (w : VersionWrites) → good.code ≡ repaired old.code i plan → i < n → IsLive n old → IsGood good.code good.witnesses
    → IsMadeOf n name i old good pair.zero pair.one w → MendsWith n name i old plan good pair w
mends_with n i name old plan good pair w code low live is of = record {
  made = of;
  of_file = λ v valid both.
      let row : (r : ℕ) → combination (code_row (repaired old.code i plan) i r) v (repaired old.code i plan).width ≡ combination (code_row good.code i r) v n =
      λ r. ap (λ (k : CodeParts). combination (code_row k i r) v k.width) (sym code) ∙ ap (combination (code_row good.code i r) v) (width_of n i plan old good code live) in
      made_of_file n i old plan good v code low live is name pair.zero pair.one w of (both.zero ∙ row 0) (both.one ∙ row 1) valid;
}
