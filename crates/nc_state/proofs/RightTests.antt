-- The test whether a chunk is right.
use Rattle.std.proofs.Common.{◌<◌, ◌≤◌, ◌+◌, ◌*◌, ◌^◌, ℕ, Some, List, length, slice_index, inl, inr, refl, sym, ap, ◌∙◌, subst, arith}
use Rattle.std.proofs.lemmas.Bool.{cases_lt}
use Rattle.std.proofs.lemmas.List.{get_or_past}
use Rattle.std.proofs.lemmas.List.FromFn.{get_or-map-range_with_len}
use Rattle.std.proofs.Math.Nat.{le-mul_of_pos_right}
use Rattle.std.proofs.lemmas.Grind.{div_ceil_times}
use Rattle.nc_bytes.specs.Bytes.{AreBytes}
use Rattle.nc_gf256.specs.Field.{mul, total}
use Rattle.nc_gf256.specs.Width.{native_count}
use Rattle.nc_gf256.proofs.FieldLaws.{mul_lt}
use Rattle.nc_gf256.proofs.Sums.{total_lt}
use Rattle.nc_native.specs.Native.{chunk_size, combination, native}
use Rattle.nc_native.proofs.Pieces.{length-combination}
use Rattle.nc_code.specs.Codes.{code_row}
use Rattle.nc_name.specs.declared.key.Key.{Key}
use Rattle.nc_name.specs.declared.key.Key.TheVariants as key
use Rattle.nc_name.specs.Names.{IsName}
use Rattle.nc_name.specs.Keys.{key_text}
use Rattle.nc_frame.specs.Frames.{HasFrame}
use Rattle.nc_frame.proofs.Shapes.{has_frame}
use Rattle.nc_meta.specs.declared.meta.Live.{Live}
use Rattle.nc_state.specs.Versions.{IsValidFor}
use Rattle.nc_state.specs.Versions.Version.{Never, Removed, Stored}
use Rattle.nc_state.specs.Right.{HasChunkAt, chunk_object}
use Rattle.nc_state.specs.ChunkLaws.{RightIsTested}
use Rattle.nc_state.proofs.Held.{is_object-Decides}

-- a combination by a row of bytes has bytes
combination_bytes : (row v : List ℕ) (n : ℕ) → AreBytes row → AreBytes (combination row v n)
unfolding combination
combination_bytes row v n bytes i =
    let byte_at = λ (p : ℕ). total (native_count n) (λ j. mul (slice_index row j) (slice_index (native v n j) p)) in
    elim (cases_lt i (chunk_size (length v) n)) [
      | inl within ↦
          subst (λ (b : ℕ). b < 256) (sym (get_or-map-range_with_len byte_at 0 (chunk_size (length v) n) i i 0 within (omega arith)))
          (total_lt (native_count n) (λ j. mul (slice_index row j) (slice_index (native v n j) i)) (λ j low. mul_lt (slice_index row j) (slice_index (native v n j) i) (bytes j)))
      | inr past ↦
          let long : length (combination row v n) ≤ i = omega (arith, length-combination row v n, past) in
          subst (λ (b : ℕ). b < 256) (sym (get_or_past (combination row v n) i 0 long)) (omega arith)
    ]

-- a chunk of a valid version fits into a frame of its place
chunk_fits : (n : ℕ) (name : List ℕ) (m : Live) (v : List ℕ) (c slot row : ℕ) → IsName name → IsValidFor n m v → c < n → HasChunkAt name (Stored m v) c (key.Chunk name slot row)
    → HasFrame c n (key_text (key.Chunk name slot row)) (combination (code_row m.code c row) v n)
chunk_fits n name m v c slot row is valid low at =
    let pair : slot < 2 = subst (λ (s : ℕ). s < 2) (sym at.1) (valid.stored.slots c) in
    let narrow : n ≤ 10 = subst (λ (w : ℕ). w ≤ 10) valid.stored.width valid.stored.code.narrow in
    let long = length-combination (code_row m.code c row) v n in
    let short : length v ≤ 2 ^ 26 = subst (λ (k : ℕ). k ≤ 2 ^ 26) valid.len valid.stored.len in
    let some : 0 < native_count n = let wide = subst (λ (w : ℕ). 4 ≤ w) valid.stored.width valid.stored.code.wide in omega arith in
    let times = (div_ceil_times (length v) (native_count n) some).1 in
    let low_size : chunk_size (length v) n ≤ chunk_size (length v) n * native_count n = le-mul_of_pos_right (chunk_size (length v) n) some in
    let size : length (combination (code_row m.code c row) v n) < 2 ^ 64 = omega (arith, long, times, low_size, short, narrow) in
    has_frame c n (key.Chunk name slot row) (combination (code_row m.code c row) v n) (omega arith) (omega arith) (is, (pair, at.2)) (combination_bytes (code_row m.code c row) v n (valid.stored.code.shape.bytes (2 * c + row))) size

-- the test tells whether it is right
pub right_is_tested : RightIsTested
right_is_tested n F name x c (key.Meta other slot) is valid low at = absurd at
right_is_tested n F name Never c (key.Chunk other slot row) is valid low at = absurd at
right_is_tested n F name (Removed generation) c (key.Chunk other slot row) is valid low at = absurd at
right_is_tested n F name (Stored m v) c (key.Chunk other slot row) is valid low at =
    let place : Key = key.Chunk other slot row in
    let fits = chunk_fits n other m v c slot row (subst IsName (sym at.0) is) valid low (refl, at.1, at.2) in
    let test = is_object-Decides (F c place) (chunk_object n (Stored m v) c place) in (
      λ e. record { bytes = chunk_object n (Stored m v) c place; stands = test.0 e; is_chunk = record { fits = fits; is_frame = refl } },
      λ r. test.1 (r.stands ∙ ap Some r.is_chunk.is_frame),
    )
