-- What an answer shows of a chunk.
use Rattle.std.proofs.Common.{◌≡◌, ◌≢◌, ◌+◌, ◌<◌, ℕ, Some, Option, List, length, true, refl, sym, ap, ◌∙◌, subst, arith, inl, inr}
use Rattle.std.specs.Borrow.{Bor}
use Rattle.sha2.specs.Sha256.{sha256}
use Rattle.nc_name.specs.Keys.{key_text}
use Rattle.nc_cloud.specs.declared.fleet.Answer.{Answer}
use Rattle.nc_cloud.specs.declared.fleet.Answer.TheVariants as answer
use Rattle.nc_cloud.specs.Fleet.{Shows}
use Rattle.nc_frame.specs.Frames.{Sealed}
use Rattle.nc_frame.specs.Opening.{Opens}
use Rattle.nc_frame.specs.declared.opening.Seen.{Seen}
use Rattle.nc_frame.specs.declared.opening.Seen.TheVariants.{Payload, Misplaced, Broken}
use Rattle.nc_frame.proofs.Shapes.{same_parts}
use Rattle.nc_download.specs.declared.judging.Wanted.{Wanted}
use Rattle.nc_download.specs.Chunks.{frame_len, IsBrokenChunk, IsGoodChunk, IsInner, IsMarkedChunk}
use Rattle.nc_cloud.specs.Deciding.{IsSeen}
use Rattle.nc_download.proofs.InnerLaws.{inner_is, sealed_long}

-- bytes that are no frame of here are broken
pub not_here : (w : Wanted) (bytes : List ℕ) (seen : Seen) → Opens bytes w.cloud w.width (key_text w.key) seen → ((p : Bor (List ℕ)) → seen ≡ Payload p → ⊥) → IsBrokenChunk w (Some bytes)
not_here w bytes (Payload p) opens not = absurd (not p refl)
not_here w bytes (Misplaced c n) opens not = record {
  there = refl;
  no_payload = λ payload holds long.
      let same = same_parts bytes c w.cloud n w.width _ _ _ _ opens.1.2 holds in
      elim opens.0 [
        | inl other ↦ other same.cloud
        | inr other ↦ other same.width
      ];
}
not_here w bytes Broken opens not = record {
  there = refl;
  no_payload = λ payload holds long. (opens w.cloud w.width (key_text w.key) payload holds).2 refl;
}

-- so are those of a payload of another length
pub wrong_length : (w : Wanted) (bytes payload : List ℕ) → Sealed bytes w.cloud w.width (key_text w.key) payload → length payload ≢ w.size → IsBrokenChunk w (Some bytes)
wrong_length w bytes payload here other = record {
  there = refl;
  no_payload = λ p holds long. other (ap length (same_parts bytes _ _ _ _ _ _ _ _ here holds).payload ∙ long);
}

-- more bytes than the frame has are not its frame
too_long : (w : Wanted) (bytes payload : List ℕ) → 48 + length (key_text w.key) + w.size < length bytes → Sealed bytes w.cloud w.width (key_text w.key) payload → length payload ≢ w.size
too_long w bytes payload more is long =
    let total : length bytes ≡ 48 + length (key_text w.key) + length payload = sealed_long w bytes payload is in
    absurd (omega arith)

pub long_broken : (w : Wanted) (a : Answer) → IsSeen a ≡ true → ((bytes : List ℕ) → a ≡ answer.Bytes bytes → ⊥) → (a ≡ answer.Absent → ⊥) → (held : Option (List ℕ)) → Shows a (frame_len w) held → IsBrokenChunk w held
long_broken w answer.Long seen bytes absent held shows =
    subst (λ h. IsBrokenChunk w h) (sym shows.1) (record { there = refl; no_payload = λ payload holds. too_long w shows.0 payload shows.2 holds })
long_broken w (answer.Bytes b) seen bytes absent held shows = absurd (bytes b refl)
long_broken w answer.Absent seen bytes absent held shows = absurd (absent refl)
long_broken w answer.Waiting seen bytes absent held shows = cc
long_broken w answer.Failed seen bytes absent held shows = cc
long_broken w answer.Memory seen bytes absent held shows = cc

-- what is seen as a payload is sealed
pub opened : (w : Wanted) (bytes : List ℕ) (seen : Seen) (p : Bor (List ℕ)) → Opens bytes w.cloud w.width (key_text w.key) seen → seen ≡ Payload p
    → Sealed bytes w.cloud w.width (key_text w.key) p.now
opened w bytes seen p opens is = subst (λ (s : Seen). Opens bytes w.cloud w.width (key_text w.key) s) is opens

-- what stands in the payload's place of a frame has the length that the metadata tells
pub inner_long : (w : Wanted) (bytes inner payload : List ℕ) → IsInner w bytes inner → Sealed bytes w.cloud w.width (key_text w.key) payload → length inner ≡ w.size
inner_long w bytes inner payload is here = omega (arith, sealed_long w bytes payload here, is.total, ap length (inner_is w bytes inner payload is here))

-- so it is good where its digest is the mark
pub inner_good : (w : Wanted) (bytes inner payload : List ℕ) → IsInner w bytes inner → Sealed bytes w.cloud w.width (key_text w.key) payload → sha256 inner ≡ w.mark → IsGoodChunk w (Some bytes) inner
inner_good w bytes inner payload is here marked = record {
  holds = subst (λ (p : List ℕ). Sealed bytes w.cloud w.width (key_text w.key) p) (sym (inner_is w bytes inner payload is here)) here;
  long = inner_long w bytes inner payload is here;
  marked = marked;
}

-- and marked otherwise where it isn't
pub inner_other : (w : Wanted) (bytes inner payload : List ℕ) → IsInner w bytes inner → Sealed bytes w.cloud w.width (key_text w.key) payload → sha256 inner ≢ w.mark → IsMarkedChunk w (Some bytes)
inner_other w bytes inner payload is here other = record {
  payload = inner;
  holds = subst (λ (p : List ℕ). Sealed bytes w.cloud w.width (key_text w.key) p) (sym (inner_is w bytes inner payload is here)) here;
  long = inner_long w bytes inner payload is here;
  other = other;
}

-- bytes that are more or fewer than the frame has are broken
pub other_length : (w : Wanted) (bytes : List ℕ) → length bytes ≢ frame_len w → IsBrokenChunk w (Some bytes)
other_length w bytes other = record {
  there = refl;
  no_payload = λ payload here long. other (omega (arith, sealed_long w bytes payload here, long));
}
