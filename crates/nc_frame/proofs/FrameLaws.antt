-- The laws of frames: what is torn.
use Rattle.std.proofs.Common.{arith, sym, ap, ◌∙◌, append_assoc, length-append}
use Rattle.std.proofs.lemmas.List.{nil_from_length}
use Rattle.std.specs.Prelude.{ℕ, ◌≡◌, ◌+◌, List, [], ◌++◌, length}
use Rattle.nc_bytes.specs.Bytes.{part}
use Rattle.nc_bytes.proofs.Numbers.{bytes_2-same, bytes_8-same}
use Rattle.nc_bytes.proofs.Places.{part_of_front}
use Rattle.nc_frame.specs.Frames.{Whole, ProperPrefixesAreTorn, PrefixesOfTornAreTorn}
use Rattle.nc_frame.proofs.Shapes.{shape_of}

-- a whole beginning of whole bytes is all of them
pub whole_front : (front rest bytes : List ℕ) → Whole bytes → Whole front → front ++ rest ≡ bytes → rest ≡ []
whole_front front rest bytes w v e =
    let s = shape_of bytes w.cloud w.width w.key w.payload w.is_sealed.is_frame in
    let t = shape_of front v.cloud v.width v.key v.payload v.is_sealed.is_frame in
    let k_at : part 6 2 bytes ≡ part 6 2 front = ap (part 6 2) (sym e) ∙ part_of_front 6 2 front rest (omega arith) in
    let keys : length v.key ≡ length w.key =
    bytes_2-same (length v.key) (length w.key) v.is_sealed.fits.key_fits w.is_sealed.fits.key_fits (t.key_len ∙ sym k_at ∙ sym s.key_len) in
    let p_at : part (8 + length v.key) 8 bytes ≡ part (8 + length v.key) 8 front =
    ap (part (8 + length v.key) 8) (sym e) ∙ part_of_front (8 + length v.key) 8 front rest (omega arith) in
    let size : part (8 + length w.key) 8 bytes ≡ part (8 + length v.key) 8 bytes = ap (λ n. part (8 + n) 8 bytes) (sym keys) in
    let sizes : length v.payload ≡ length w.payload =
    bytes_8-same (length v.payload) (length w.payload) v.is_sealed.fits.payload_fits w.is_sealed.fits.payload_fits
    (t.size ∙ sym p_at ∙ sym size ∙ sym s.size) in
    nil_from_length rest (omega (arith, s.total, t.total, keys, sizes, ap length e, length-append front rest))

pub proper_prefixes_are_torn : ProperPrefixesAreTorn
proper_prefixes_are_torn front rest bytes w e more = record {
  none_whole = λ beginning left f v.
      let all = whole_front beginning (left ++ rest) bytes w v (sym (append_assoc beginning left rest) ∙ ap (λ (l : List ℕ). l ++ rest) f ∙ e) in
      more (nil_from_length rest (omega (arith, ap length all, length-append left rest)));
}

pub prefixes_of_torn_are_torn : PrefixesOfTornAreTorn
prefixes_of_torn_are_torn front rest bytes torn e = record {
  none_whole = λ beginning left f v.
      torn.none_whole beginning (left ++ rest) (sym (append_assoc beginning left rest) ∙ ap (λ (l : List ℕ). l ++ rest) f ∙ e) v;
}
