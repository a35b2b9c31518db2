-- What of a frame can be tested, and that it is all.
use Rattle.std.proofs.Common.{arith, refl, sym, ap, ap₂, subst, ◌∙◌, append_assoc, length-append, take_at}
use Rattle.std.proofs.lemmas.List.{drop_at}
use Rattle.std.specs.Prelude.{ℕ, ◌≡◌, ◌+◌, ◌-◌, ◌^◌, ◌<◌, ◌≤◌, List, [], ◌∷◌, ◌++◌, length, slice_index, take, drop}
use Rattle.sha2.specs.Sha256.{sha256}
use Rattle.sha2.proofs.Facts256.{length-sha256}
use Rattle.nc_bytes.specs.Bytes.{AreBytes, part, bytes_2, bytes_8}
use Rattle.nc_bytes.proofs.Numbers.{length-bytes_2, length-bytes_8, bytes_2-same, bytes_8-same}
use Rattle.nc_bytes.proofs.Places.{joins, splits, part_bytes, length-part, two_at}
use Rattle.nc_name.specs.declared.key.Key.{Key}
use Rattle.nc_name.specs.Keys.{IsKey, key_text}
use Rattle.nc_name.proofs.KeyTexts.{key_text_short, key_text_bytes}
use Rattle.nc_frame.specs.Frames.{frame, frame_front, Sealed, HasFrame, Whole}

-- what is tested of bytes that may be a frame with a key of k bytes and a payload of p
pub record Shape (bytes : List ℕ) (k p : ℕ) : Type 0 where
  pub total : length bytes ≡ 48 + k + p
  pub magic : part 0 4 bytes ≡ 0x4E ∷ 0x43 ∷ 0x46 ∷ 0x31 ∷ []
  pub key_len : bytes_2 k ≡ part 6 2 bytes
  pub size : bytes_8 p ≡ part (8 + k) 8 bytes
  pub digest : sha256 (take (16 + k + p) bytes) ≡ drop (16 + k + p) bytes

-- six parts, without parentheses to the left
regroup : (a b c d e f : List ℕ) → (a ++ (b ++ (c ++ (d ++ e)))) ++ f ≡ a ++ (b ++ (c ++ (d ++ (e ++ f))))
regroup a b c d e f = simp append_assoc

length_front : (cloud width : ℕ) (key payload : List ℕ) → length (frame_front cloud width key payload) ≡ 16 + length key + length payload
unfolding frame_front
length_front c w key payload =
    let a = length-append (bytes_2 (length key)) (key ++ (bytes_8 (length payload) ++ payload)) in
    let b = length-append key (bytes_8 (length payload) ++ payload) in
    let d = length-append (bytes_8 (length payload)) payload in
    omega (arith, a, b, d, length-bytes_2 (length key), length-bytes_8 (length payload))

-- the length of a frame
pub length-frame : (cloud width : ℕ) (key payload : List ℕ) → length (frame cloud width key payload) ≡ 48 + length key + length payload
unfolding frame
length-frame c w key payload =
    omega (arith, length-append (frame_front c w key payload) (sha256 (frame_front c w key payload)), length-sha256 (frame_front c w key payload), length_front c w key payload)

-- a frame and its digest
digested : (bytes front : List ℕ) (n : ℕ) → length front ≡ n → bytes ≡ front ++ sha256 front → sha256 (take n bytes) ≡ drop n bytes
digested bytes front n size e =
    let here : take n bytes ≡ front = ap (take n) e ∙ take_at front (sha256 front) n size in
    let rest : drop n bytes ≡ sha256 front = ap (drop n) e ∙ drop_at front (sha256 front) n size in
    ap sha256 here ∙ sym rest

-- the parts, from the place of each
record Places (bytes : List ℕ) (c w : ℕ) (k p : List ℕ) : Type 0 where
  magic : part 0 4 bytes ≡ 0x4E ∷ 0x43 ∷ 0x46 ∷ 0x31 ∷ []
  cloud : slice_index bytes 4 ≡ c
  width : slice_index bytes 5 ≡ w
  key_len : part 6 2 bytes ≡ bytes_2 (length k)
  key : part 8 (length k) bytes ≡ k
  size : part (8 + length k) 8 bytes ≡ bytes_8 (length p)
  payload : part (16 + length k) (length p) bytes ≡ p

places_of : (bytes : List ℕ) (c w : ℕ) (key payload : List ℕ) → bytes ≡ frame c w key payload → Places bytes c w key payload
unfolding frame frame_front
places_of bytes c w key payload e =
    let six = 0x4E ∷ 0x43 ∷ 0x46 ∷ 0x31 ∷ c ∷ w ∷ [] in
    let flat = e ∙ regroup six (bytes_2 (length key)) key (bytes_8 (length payload)) payload (sha256 (frame_front c w key payload)) in
    let one = splits 0 6 bytes six _ refl flat in
    let two = splits 6 2 bytes _ _ (length-bytes_2 (length key)) one.rest in
    let three = splits 8 (length key) bytes _ _ refl two.rest in
    let four = splits (8 + length key) 8 bytes _ _ (length-bytes_8 (length payload)) three.rest in
    let at : 8 + length key + 8 ≡ 16 + length key = omega arith in
    let rest = ap (λ n. drop n bytes) (sym at) ∙ four.rest in
    let five = splits (16 + length key) (length payload) bytes _ _ refl rest in
    record {
      magic = ap (take 4) flat;
      cloud = ap (λ xs. slice_index xs 4) flat;
      width = ap (λ xs. slice_index xs 5) flat;
      key_len = two.here;
      key = three.here;
      size = four.here;
      payload = five.here;
    }

pub shape_of : (bytes : List ℕ) (c w : ℕ) (key payload : List ℕ) → bytes ≡ frame c w key payload → Shape bytes (length key) (length payload)
unfolding frame
shape_of bytes c w key payload e =
    let places = places_of bytes c w key payload e in
    record {
      total = ap length e ∙ length-frame c w key payload;
      magic = places.magic;
      key_len = sym places.key_len;
      size = sym places.size;
      digest = digested bytes (frame_front c w key payload) (16 + length key + length payload) (length_front c w key payload) e;
    }

-- bytes of this shape are a frame
front_of : (bytes : List ℕ) (k p : ℕ) → Shape bytes k p
    → bytes ≡ frame_front (slice_index bytes 4) (slice_index bytes 5) (part 8 k bytes) (part (16 + k) p bytes) ++ drop (16 + k + p) bytes
unfolding frame_front
front_of bytes k p s =
    let key_size : length (part 8 k bytes) ≡ k = length-part 8 k bytes (omega arith) in
    let size : length (part (16 + k) p bytes) ≡ p = length-part (16 + k) p bytes (omega arith) in
    let at : 8 + k + 8 ≡ 16 + k = omega arith in
    let room : 6 ≤ length bytes = omega arith in
    let payload = part (16 + k) p bytes in
    let five : drop (16 + k) bytes ≡ payload ++ drop (16 + k + p) bytes = joins (16 + k) p bytes _ _ refl refl in
    let size_at : part (8 + k) 8 bytes ≡ bytes_8 (length payload) = sym s.size ∙ ap bytes_8 (sym size) in
    let four = joins (8 + k) 8 bytes (bytes_8 (length payload)) (payload ++ drop (16 + k + p) bytes) size_at (rw at five) in
    let three = joins 8 k bytes _ _ refl four in
    let key_len_at : part 6 2 bytes ≡ bytes_2 (length (part 8 k bytes)) = sym s.key_len ∙ ap bytes_2 (sym key_size) in
    let two = joins 6 2 bytes _ _ key_len_at three in
    let one = joins 4 2 bytes _ _ (two_at 4 bytes room) two in
    let zero = joins 0 4 bytes _ _ s.magic one in
    zero ∙ sym (regroup (0x4E ∷ 0x43 ∷ 0x46 ∷ 0x31 ∷ slice_index bytes 4 ∷ slice_index bytes 5 ∷ []) (bytes_2 (length (part 8 k bytes))) (part 8 k bytes) (bytes_8 (length payload)) payload (drop (16 + k + p) bytes))

pub sealed_of : (bytes : List ℕ) (k p : ℕ) → AreBytes bytes → k < 2 ^ 16 → p < 2 ^ 64 → Shape bytes k p
    → Sealed bytes (slice_index bytes 4) (slice_index bytes 5) (part 8 k bytes) (part (16 + k) p bytes)
unfolding frame
sealed_of bytes k p are k_fits p_fits s =
    let key_size : length (part 8 k bytes) ≡ k = length-part 8 k bytes (omega arith) in
    let size : length (part (16 + k) p bytes) ≡ p = length-part (16 + k) p bytes (omega arith) in
    let front = frame_front (slice_index bytes 4) (slice_index bytes 5) (part 8 k bytes) (part (16 + k) p bytes) in
    let whole : bytes ≡ front ++ drop (16 + k + p) bytes = front_of bytes k p s in
    let front_size : length front ≡ 16 + k + p = omega (arith, length_front (slice_index bytes 4) (slice_index bytes 5) (part 8 k bytes) (part (16 + k) p bytes)) in
    let here : take (16 + k + p) bytes ≡ front = ap (take (16 + k + p)) whole ∙ take_at front (drop (16 + k + p) bytes) (16 + k + p) front_size in
    let digest : drop (16 + k + p) bytes ≡ sha256 front = sym s.digest ∙ ap sha256 here in
    record {
      fits = record {
        cloud_fits = are 4;
        width_fits = are 5;
        key_fits = rw key_size k_fits;
        payload_fits = rw size p_fits;
        key_bytes = part_bytes 8 k bytes are;
        payload_bytes = part_bytes (16 + k) p bytes are;
      };
      is_frame = whole ∙ ap (λ (d : List ℕ). front ++ d) digest;
    }

-- the length of the key that whole bytes tell leaves the length of the payload
pub shape_here : (bytes : List ℕ) (n : ℕ) → n < 2 ^ 16 → bytes_2 n ≡ part 6 2 bytes → Whole bytes → Shape bytes n (length bytes - 48 - n)
shape_here bytes n fits e w =
    let s = shape_of bytes w.cloud w.width w.key w.payload w.is_sealed.is_frame in
    let k : length w.key ≡ n = sym (bytes_2-same n (length w.key) fits w.is_sealed.fits.key_fits (e ∙ sym s.key_len)) in
    let p : length w.payload ≡ length bytes - 48 - n = omega (arith, s.total) in
    let at_key = subst (λ m. Shape bytes m (length w.payload)) k s in
    subst (λ m. Shape bytes n m) p at_key

-- the parts of a frame are in its bytes
pub record SameParts (c d w u : ℕ) (k j p q : List ℕ) : Type 0 where
  pub cloud : c ≡ d
  pub width : w ≡ u
  pub key : k ≡ j
  pub payload : p ≡ q

-- no bytes are the frame of two things
pub same_parts : (bytes : List ℕ) (c d w u : ℕ) (k j p q : List ℕ) → Sealed bytes c w k p → Sealed bytes d u j q → SameParts c d w u k j p q
same_parts bytes c d w u k j p q one two =
    let a = places_of bytes c w k p one.is_frame in
    let b = places_of bytes d u j q two.is_frame in
    let keys : length k ≡ length j = bytes_2-same (length k) (length j) one.fits.key_fits two.fits.key_fits (sym a.key_len ∙ b.key_len) in
    let size_at : part (8 + length k) 8 bytes ≡ bytes_8 (length q) = ap (λ n. part (8 + n) 8 bytes) keys ∙ b.size in
    let sizes : length p ≡ length q = bytes_8-same (length p) (length q) one.fits.payload_fits two.fits.payload_fits (sym a.size ∙ size_at) in
    let payload_at = ap₂ (λ n m. part (16 + n) m bytes) keys sizes in
    record {
      cloud = sym a.cloud ∙ b.cloud;
      width = sym a.width ∙ b.width;
      key = sym a.key ∙ ap (λ n. part 8 n bytes) keys ∙ b.key;
      payload = sym a.payload ∙ payload_at ∙ b.payload;
    }

-- sealed bytes are whole
pub whole_of : (bytes : List ℕ) (c w : ℕ) (k p : List ℕ) → Sealed bytes c w k p → Whole bytes
whole_of bytes c w k p s = record { cloud = c; width = w; key = k; payload = p; is_sealed = s }

-- bytes under a key have a frame
pub has_frame : (cloud width : ℕ) (key : Key) (payload : List ℕ) → cloud < 256 → width < 256 → IsKey key → AreBytes payload → length payload < 2 ^ 64
    → HasFrame cloud width (key_text key) payload
has_frame cloud width key payload c w is are size =
    let short = key_text_short key is.0.short in
    record { cloud_fits = c; width_fits = w; key_fits = omega arith; payload_fits = size; key_bytes = key_text_bytes key is.1; payload_bytes = are }
