-- What the text of a key shows of the key.
use Rattle.std.proofs.Common.{arith, refl, ap, ◌∙◌, length-append, take_at}
use Rattle.std.proofs.lemmas.List.{get_or-append_right, drop_at}
use Rattle.std.specs.Prelude.{ℕ, ◌≡◌, ◌+◌, ◌*◌, ◌-◌, ◌/◌, ◌<◌, ◌≤◌, List, [], ◌∷◌, ◌++◌, length, take, drop, slice_index, Result, Ok, Err, MatchResult}
use Rattle.hex.specs.Hex.{encode_lower, decode_sized, lower_digits}
use Rattle.hex.specs.declared.error.FromHexError.{FromHexError}
use Rattle.hex.proofs.HexLemmas.{length-encode_with, decode_sized-encode_lower}
use Rattle.nc_bytes.specs.Bytes.{AreBytes}
use Rattle.nc_name.specs.declared.key.Key.{Key}
use Rattle.nc_name.specs.declared.key.Key.TheVariants.{Meta, Chunk}
use Rattle.nc_name.specs.Keys.{IsKey, Slots, name_of, key_text}
use Rattle.nc_name.proofs.TextParts.{around_digits}
use Rattle.std.proofs.lemmas.Str.Ascii.{IsAscii-nil, IsAscii-cons}
use Rattle.std.specs.Str.{IsAscii}
use Rattle.nc_name.specs.Names.{IsName}

-- the part between a front and an end
pub middle : (text front mid back : List ℕ) (n : ℕ) → length front ≡ 2 → length back ≡ n → text ≡ front ++ (mid ++ back)
    → take (length text - 2 - n) (drop 2 text) ≡ mid
middle text front mid back n f b e =
    let size : length text - 2 - n ≡ length mid = omega (arith, ap length e, length-append front (mid ++ back), length-append mid back) in
    let rest : drop 2 text ≡ mid ++ back = ap (drop 2) e ∙ drop_at front (mid ++ back) 2 f in
    rw (size, rest) (take_at mid back (length mid) refl)

pub length_within : (text front name back : List ℕ) → text ≡ front ++ (encode_lower name ++ back)
    → length text ≡ length front + 2 * length name + length back
length_within text front name back e =
    omega (arith, ap length e, length-append front (encode_lower name ++ back), length-append (encode_lower name) back, length-encode_with lower_digits name)

-- an element of the last part, counted from the end
at_end : (xs ys : List ℕ) (k : ℕ) → k < length ys → slice_index (xs ++ ys) (length (xs ++ ys) - (length ys - k)) ≡ slice_index ys k
at_end xs ys k l =
    let place : length (xs ++ ys) - (length ys - k) ≡ length xs + k = omega (arith, length-append xs ys) in
    let back : length xs + k - length xs ≡ k = omega arith in
    rw place (get_or-append_right xs ys (length xs) (length xs + k) 0 refl (omega arith) ∙ ap (slice_index ys) back)

-- what the text of a meta's key shows
pub record IsMetaText (text : List ℕ) (key : Key) : Type 0 where
  pub name : List ℕ
  pub slot : ℕ
  pub is_key : key ≡ Meta name slot
  pub valid : IsName name
  pub small : slot < 2
  pub parts : text ≡ (109 ∷ 45 ∷ []) ++ (encode_lower name ++ (45 ∷ (48 + slot) ∷ []))
  pub slot_at : slice_index text (length text - 1) ≡ 48 + slot

-- what the text of a chunk's key shows
pub record IsChunkText (text : List ℕ) (key : Key) : Type 0 where
  pub name : List ℕ
  pub slot : ℕ
  pub row : ℕ
  pub is_key : key ≡ Chunk name slot row
  pub valid : IsName name
  pub small : slot < 2
  pub row_small : row < 2
  pub parts : text ≡ (99 ∷ 45 ∷ []) ++ (encode_lower name ++ (45 ∷ (48 + slot) ∷ 45 ∷ (48 + row) ∷ []))
  pub slot_at : slice_index text (length text - 3) ≡ 48 + slot
  pub row_at : slice_index text (length text - 1) ≡ 48 + row

pub is_meta_text : (text : List ℕ) (key : Key) → IsKey key → text ≡ key_text key → slice_index text 0 ≡ 109 → IsMetaText text key
unfolding key_text
is_meta_text text (Meta n s) is e first = record {
  name = n;
  slot = s;
  is_key = refl;
  valid = is.0;
  small = is.1;
  parts = e;
  slot_at = rw e (at_end (109 ∷ 45 ∷ encode_lower n) (45 ∷ (48 + s) ∷ []) 1 (omega arith));
}
is_meta_text text (Chunk n s r) is e first = let h : slice_index text 0 ≡ 99 = ap (λ xs. slice_index xs 0) e in absurd (omega arith)

pub is_chunk_text : (text : List ℕ) (key : Key) → IsKey key → text ≡ key_text key → (slice_index text 0 ≡ 109 → ⊥) → IsChunkText text key
unfolding key_text
is_chunk_text text (Meta n s) is e first = absurd (first (ap (λ xs. slice_index xs 0) e))
is_chunk_text text (Chunk n s r) is e first =
    let ys = 45 ∷ (48 + s) ∷ 45 ∷ (48 + r) ∷ [] in
    record {
      name = n;
      slot = s;
      row = r;
      is_key = refl;
      valid = is.0;
      small = is.1.0;
      row_small = is.1.1;
      parts = e;
      slot_at = rw e (at_end (99 ∷ 45 ∷ encode_lower n) ys 1 (omega arith));
      row_at = rw e (at_end (99 ∷ 45 ∷ encode_lower n) ys 3 (omega arith));
    }

pub key_text_long : (text : List ℕ) (key : Key) → text ≡ key_text key → 4 ≤ length text
unfolding key_text
key_text_long text (Meta n s) e = omega (arith, length_within text (109 ∷ 45 ∷ []) n (45 ∷ (48 + s) ∷ []) e)
key_text_long text (Chunk n s r) e = omega (arith, length_within text (99 ∷ 45 ∷ []) n (45 ∷ (48 + s) ∷ 45 ∷ (48 + r) ∷ []) e)

-- what hex's reader leaves of the digits of bytes
pub decoded_is : (digits bytes room out rest : List ℕ) (result : Result (Unit {0}) FromHexError) → AreBytes bytes → digits ≡ encode_lower bytes
    → length room ≡ length digits / 2
    → MatchResult (decode_sized digits (length room)) (λ bs. (result ≡ Ok tt) × (out ≡ bs)) (λ e. result ≡ Err e)
    → take (length bytes) (out ++ rest) ≡ bytes
decoded_is digits bytes room out rest result are e size m =
    let twice : length digits ≡ 2 * length bytes = ap length e ∙ length-encode_with lower_digits bytes in
    let n : length bytes ≡ length room = omega arith in
    let found : decode_sized digits (length room) ≡ Ok bytes = rw e (decode_sized-encode_lower bytes (length room) n are) in
    let both = rw found at m in
    rw both.1 (take_at bytes rest (length bytes) refl)

-- the longest text has 206 bytes
pub key_text_short : (key : Key) → length (name_of key) ≤ 100 → length (key_text key) ≤ 206
unfolding key_text
key_text_short (Meta n s) short = omega (arith, length_within _ (109 ∷ 45 ∷ []) n (45 ∷ (48 + s) ∷ []) refl)
key_text_short (Chunk n s r) short = omega (arith, length_within _ (99 ∷ 45 ∷ []) n (45 ∷ (48 + s) ∷ 45 ∷ (48 + r) ∷ []) refl)

bit_end : (s : ℕ) → s < 2 → IsAscii (45 ∷ (48 + s) ∷ [])
bit_end s small = IsAscii-cons 45 ((48 + s) ∷ []) (omega arith) (IsAscii-cons (48 + s) [] (omega arith) IsAscii-nil)

-- a text is ASCII
pub key_text_ascii : (key : Key) → Slots key → IsAscii (key_text key)
unfolding key_text
key_text_ascii (Meta n s) slots = around_digits 109 n (45 ∷ (48 + s) ∷ []) (omega arith) (bit_end s slots)
key_text_ascii (Chunk n s r) slots =
    let slot : 48 + s < 128 = omega (arith, slots.0) in
    around_digits 99 n (45 ∷ (48 + s) ∷ 45 ∷ (48 + r) ∷ []) (omega arith)
    (IsAscii-cons 45 ((48 + s) ∷ 45 ∷ (48 + r) ∷ []) (omega arith) (IsAscii-cons (48 + s) (45 ∷ (48 + r) ∷ []) slot (bit_end r slots.1)))

pub key_text_bytes : (key : Key) → Slots key → AreBytes (key_text key)
key_text_bytes key slots = λ i. let small = key_text_ascii key slots i in omega arith
