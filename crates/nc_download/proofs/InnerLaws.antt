-- The place of the payload in the frame of a chunk.
use Rattle.std.proofs.Common.{◌≡◌, ◌+◌, ◌++◌, ◌∷◌, ℕ, Some, List, [], length, drop, refl, ap, ◌∙◌, arith, append_assoc, length-append}
use Rattle.std.proofs.lemmas.List.{drop_at}
use Rattle.sha2.specs.Sha256.{sha256}
use Rattle.nc_bytes.specs.Bytes.{part, bytes_2, bytes_8}
use Rattle.nc_bytes.proofs.Numbers.{length-bytes_2, length-bytes_8}
use Rattle.nc_bytes.proofs.Places.{splits}
use Rattle.nc_name.specs.Keys.{key_text}
use Rattle.nc_frame.specs.Frames.{frame, frame_front, Sealed}
use Rattle.nc_frame.proofs.Shapes.{length-frame}
use Rattle.nc_download.specs.declared.judging.Wanted.{Wanted}
use Rattle.nc_download.specs.Chunks.{frame_len, IsGoodChunk, IsInner}

-- six parts, with the first four together
regroup : (a b c d e f : List ℕ) → (a ++ (b ++ (c ++ (d ++ e)))) ++ f ≡ (a ++ (b ++ (c ++ d))) ++ (e ++ f)
regroup a b c d e f = simp append_assoc

-- what stands behind the key and the length of the payload
payload_place : (bytes : List ℕ) (c w : ℕ) (key payload : List ℕ) → bytes ≡ frame c w key payload → part (16 + length key) (length payload) bytes ≡ payload
unfolding frame frame_front
payload_place bytes c w key payload e =
    let six = 0x4E ∷ 0x43 ∷ 0x46 ∷ 0x31 ∷ c ∷ w ∷ [] in
    let digest = sha256 (frame_front c w key payload) in
    let front = six ++ (bytes_2 (length key) ++ (key ++ bytes_8 (length payload))) in
    let flat : bytes ≡ front ++ (payload ++ digest) = e ∙ regroup six (bytes_2 (length key)) key (bytes_8 (length payload)) payload digest in
    let after_numbers = length-append (bytes_2 (length key)) (key ++ bytes_8 (length payload)) in
    let after_key = length-append key (bytes_8 (length payload)) in
    let size : length front ≡ 16 + length key = omega (arith, after_numbers, after_key, length-bytes_2 (length key), length-bytes_8 (length payload)) in
    let rest : drop (16 + length key) bytes ≡ payload ++ digest = ap (drop (16 + length key)) flat ∙ drop_at front (payload ++ digest) (16 + length key) size in
    (splits (16 + length key) (length payload) bytes payload digest refl rest).here

-- the length of a frame
pub sealed_long : (w : Wanted) (bytes payload : List ℕ) → Sealed bytes w.cloud w.width (key_text w.key) payload → length bytes ≡ 48 + length (key_text w.key) + length payload
sealed_long w bytes payload here = ap length here.is_frame ∙ length-frame w.cloud w.width (key_text w.key) payload

-- what stands in the payload's place of a frame is its payload
pub inner_is : (w : Wanted) (bytes inner payload : List ℕ) → IsInner w bytes inner → Sealed bytes w.cloud w.width (key_text w.key) payload → inner ≡ payload
inner_is w bytes inner payload is here =
    let size : w.size ≡ length payload = omega (arith, sealed_long w bytes payload here, is.total) in
    is.at ∙ ap (λ n. part (16 + length (key_text w.key)) n bytes) size ∙ payload_place bytes w.cloud w.width (key_text w.key) payload here.is_frame

-- so it is with a good chunk
pub good_inner : (w : Wanted) (bytes inner payload : List ℕ) → IsGoodChunk w (Some bytes) payload → IsInner w bytes inner → inner ≡ payload
good_inner w bytes inner payload good is = inner_is w bytes inner payload is good.holds

-- whose frame has the length that was asked for
pub good_long : (w : Wanted) (bytes payload : List ℕ) → IsGoodChunk w (Some bytes) payload → length bytes ≡ frame_len w
good_long w bytes payload good = omega (arith, sealed_long w bytes payload good.holds, good.long)
