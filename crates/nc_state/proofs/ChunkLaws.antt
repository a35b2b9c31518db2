-- The chunks of versions.
use Rattle.std.proofs.Common.{◌≡◌, ◌≢◌, ◌<◌, ◌+◌, ◌*◌, ◌==◌, ℕ, Bool, if◌then◌else◌, Some, List, [], length, slice_index, slice_index_or, sym, ap, ◌∙◌, subst, inl, inr, arith}
use Rattle.std.proofs.lemmas.Bool.Decides.{eqb_tells}
use Rattle.std.proofs.lemmas.List.{get_or-set_other, get_or-set_same}
use Rattle.sha2.specs.Sha256.{sha256}
use Rattle.nc_native.specs.Native.{chunk_size, combination}
use Rattle.nc_code.specs.Parts.{CodeParts, PlanParts}
use Rattle.nc_code.specs.Codes.{code_row}
use Rattle.nc_code.proofs.RepairLemmas.{survivor_row}
use Rattle.nc_meta.specs.declared.meta.Live.{Live}
use Rattle.nc_meta.specs.declared.meta.Meta.TheVariants as meta
use Rattle.nc_state.specs.Mending.{IsMended}
use Rattle.nc_name.specs.declared.key.Key.{Key}
use Rattle.nc_name.specs.declared.key.Key.TheVariants as key
use Rattle.nc_name.specs.Keys.{key_text}
use Rattle.nc_frame.specs.Frames.{Sealed}
use Rattle.nc_frame.proofs.Shapes.{same_parts, whole_of}
use Rattle.nc_native.proofs.Pieces.{length-combination}
use Rattle.nc_state.proofs.CloudSets.{not_false}
use Rattle.nc_cloud.specs.Contents.{Contents}
use Rattle.nc_state.specs.Versions.{Version}
use Rattle.nc_state.specs.Versions.Version.{Never, Removed, Stored}
use Rattle.nc_state.specs.Right.{IsChunk, IsRight, HasChunkAt, free_slot, free_slot_of, payload_at}
use Rattle.nc_state.specs.ChunkLaws.{FreeSlotIsFree, MendedIsFree, MendedIsValid, MendedKeepsChunks, NewPlacesStand, NothingToBeRight, OnlyRightIsSealed, RightIsMarked, WrongIsDamaged}

differs : (slot : ℕ) → (if slot == 0 then 1 else 0) ≡ slot → ⊥
differs slot e =
    elim (eqb_tells slot 0) [
      | inl zero ↦ let other : 1 ≡ slot = ap (λ (b : Bool). if b then 1 else 0) (sym zero.0) ∙ e in absurd (omega (arith, zero.1))
      | inr more ↦ let other : 0 ≡ slot = ap (λ (b : Bool). if b then 1 else 0) (sym more.0) ∙ e in more.1 (sym other)
    ]

-- no version has a chunk in the slot that is free
not_in_free : (name : List ℕ) (x : Version) (c : ℕ) (other : List ℕ) (row : ℕ) → HasChunkAt name x c (key.Chunk other (free_slot_of x c) row) → ⊥
not_in_free name Never c other row names = names
not_in_free name (Removed generation) c other row names = names
not_in_free name (Stored m v) c other row names = differs (slice_index m.slots c) names.1

pub free_slot_is_free : FreeSlotIsFree
free_slot_is_free name x m v c (key.Meta other slot) free new old = new
free_slot_is_free name x m v c (key.Chunk other slot row) free new old =
    not_in_free name x c other row (subst (λ (s : ℕ). HasChunkAt name x c (key.Chunk other s row)) (new.1 ∙ free) old)

-- what stands at a right place is its chunk
right_chunk : (n : ℕ) (F : Contents) (x : Version) (c : ℕ) (place : Key) (bytes : List ℕ) → IsRight n F x c place → F c place ≡ Some bytes → IsChunk n x c place bytes
right_chunk n F x c place bytes r is =
    let e : Some r.bytes ≡ Some bytes = sym r.stands ∙ is in
    let same : r.bytes ≡ bytes = cc in
    subst (IsChunk n x c place) same r.is_chunk

removed_names : (name : List ℕ) (generation c : ℕ) (place : Key) → HasChunkAt name (Removed generation) c place → ⊥
removed_names name generation c (key.Meta other slot) names = names
removed_names name generation c (key.Chunk other slot row) names = names

never_names : (name : List ℕ) (c : ℕ) (place : Key) → HasChunkAt name Never c place → ⊥
never_names name c (key.Meta other slot) names = names
never_names name c (key.Chunk other slot row) names = names

pub nothing_to_be_right : NothingToBeRight
nothing_to_be_right n F name c = (λ place has. absurd (never_names name c place has), λ generation place has. absurd (removed_names name generation c place has))

-- a chunk of one version is that of another with the same payload
as_chunk : (n : ℕ) (x y : Version) (c : ℕ) (place : Key) (bytes : List ℕ) → payload_at n y c place ≡ payload_at n x c place → IsChunk n x c place bytes → IsChunk n y c place bytes
as_chunk n x y c place bytes e is = subst (λ (p : List ℕ). Sealed bytes c n (key_text place) p) (sym e) is

pub new_places_stand : NewPlacesStand
new_places_stand n F D name x y p each = record {
  sound = λ c place bytes l has is whole.
      elim (each c l) [
        | inl right ↦ right_chunk n F y c place bytes (right place has) is
        | inr old ↦ as_chunk n x y c place bytes (old place has).1 (p.sound c place bytes l (old place has).0 is whole)
      ];
  right = λ c place l out has.
      elim (each c l) [
        | inl right ↦ right place has
        | inr old ↦
            let r = p.right c place l out (old place has).0 in
            record { bytes = r.bytes; stands = r.stands; is_chunk = as_chunk n x y c place r.bytes (old place has).1 r.is_chunk }
      ];
}

-- ---- repair

module _ (n i : ℕ) (name : List ℕ) (plan : PlanParts) (old m : Live) (v : List ℕ) (is : IsMended i plan old m) where
  row_stays : (c r : ℕ) → c ≢ i → r < 2 → code_row m.code c r ≡ code_row old.code c r
  row_stays c r other l = ap (λ (k : CodeParts). code_row k c r) is.code ∙ survivor_row old.code i plan c r other l

  slot_stays : (c : ℕ) → c ≢ i → slice_index m.slots c ≡ slice_index old.slots c
  slot_stays c other = ap (λ (s : List ℕ). slice_index s c) is.slots ∙ get_or-set_other old.slots i c (free_slot (meta.Live old) i) 0 other

  chunk_stays : (c : ℕ) (place : Key) → c ≢ i → HasChunkAt name (Stored m v) c place → HasChunkAt name (Stored old v) c place × (payload_at n (Stored m v) c place ≡ payload_at n (Stored old v) c place)
  chunk_stays c (key.Meta other slot) differs names = absurd names
  chunk_stays c (key.Chunk other slot row) differs names =
      ((names.0, names.1 ∙ slot_stays c differs, names.2), ap (λ (r : List ℕ). combination r v n) (row_stays c row differs names.2))

  mark_stays : (c r : ℕ) → c ≢ i → r < 2 → slice_index_or m.marks (2 * c + r) [] ≡ slice_index_or old.marks (2 * c + r) []
  mark_stays c r other l = is.marks (2 * c + r) (omega arith) (omega arith)

pub mended_keeps_chunks : MendedKeepsChunks
mended_keeps_chunks n i name plan old m v c place is differs has = chunk_stays n i name plan old m v is c place differs has

pub mended_is_valid : MendedIsValid
mended_is_valid n i plan old m v is stored mds witnesses digests valid = record {
  stored = stored;
  bytes = valid.bytes;
  len = is.len ∙ valid.len;
  mds = mds;
  witnesses = witnesses;
  marks = λ c r l pair.
      elim (eqb_tells c i) [
        | inl here ↦ subst (λ (k : ℕ). slice_index_or m.marks (2 * k + r) [] ≡ sha256 (combination (code_row m.code k r) v n)) (sym here.1) (digests r pair)
        | inr other ↦
            mark_stays n i [] plan old m v is c r other.1 pair ∙ valid.marks c r l pair
            ∙ ap (λ (row : List ℕ). sha256 (combination row v n)) (sym (row_stays n i [] plan old m v is c r other.1 pair))
      ];
}

pub mended_is_free : MendedIsFree
mended_is_free n i plan old m v is fits narrow l =
    let within : i < length old.slots = omega (arith, fits.slot_count) in
    ap (λ (s : List ℕ). slice_index s i) is.slots ∙ get_or-set_same old.slots i (free_slot (meta.Live old) i) 0 within

-- ---- right chunks, and marks

pub only_right_is_sealed : OnlyRightIsSealed
only_right_is_sealed n F D name x c place bytes payload stand l has is other =
    (same_parts bytes c c n n _ _ _ _ other (stand.sound c place bytes l has is (whole_of bytes c n _ _ other))).payload

pub right_is_marked : RightIsMarked
right_is_marked n name m v c slot row valid l pair = (
  length-combination (code_row m.code c row) v n ∙ ap (λ (k : ℕ). chunk_size k n) (sym valid.len),
  sym (valid.marks c row l pair),
)

pub wrong_is_damaged : WrongIsDamaged
wrong_is_damaged n F D name x c place stand l has wrong = not_false (D c) (λ out. wrong (stand.right c place l out has))
