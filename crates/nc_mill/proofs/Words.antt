-- The bytes that the generator writes are those of the stream.
use Rattle.std.proofs.Common.{◌≡◌, ℕ, zero, suc, ◌+◌, ◌-◌, ◌*◌, ◌/◌, ◌%◌, ◌^◌, ◌<◌, ◌≤◌, List, length, get_or, refl, ap, ◌∙◌, arith, inl, inr}
use Rattle.std.specs.Int.{w32, to_le_bytes, byte_at}
use Rattle.std.proofs.lemmas.Bool.{cases_lt}
use Rattle.std.proofs.lemmas.List.{length-append, get_or-take, get_or-append_right, get_or_append_left, length-take-le}
use Rattle.std.proofs.lemmas.List.FromFn.{fill_by_all, length-map-range_with_len}
use Rattle.rand_core.specs.Steps.{word_bytes, fill_via_u32}
use Rattle.rand_chacha.specs.ChaCha.{ChaCha, word_at, next_word, key_of}
use Rattle.nc_search.specs.Stream.{stream_byte, stream_part}
use Rattle.nc_mill.specs.Mills.{mill_file, mill_key}

-- byte j of a word
byte_of_word : (w j : ℕ) → j < 4 → get_or (to_le_bytes w32 w) j 0 ≡ byte_at j w
byte_of_word w zero h = refl
byte_of_word w (suc zero) h = refl
byte_of_word w (suc (suc zero)) h = refl
byte_of_word w (suc (suc (suc zero))) h = refl
byte_of_word w (suc (suc (suc (suc j)))) h = absurd (omega arith)

-- the generator before the word at a place
abbrev at_place : List ℕ → ℕ → ChaCha
at_place key pos = record { key = key; stream = 0; word_pos = pos }

-- the first m words, as bytes, and the generator behind them
abbrev words : List ℕ → ℕ → List ℕ × ChaCha
words key m = word_bytes (to_le_bytes w32) (next_word 10) m (at_place key 0)

words_after : (key : List ℕ) (m : ℕ) → m < 2 ^ 68 → (words key m).1 ≡ at_place key m
unfolding word_bytes
words_after key zero h = refl
words_after key (suc m) h =
    ap (λ (g : ChaCha). (next_word 10 g).1) (words_after key m (omega arith))
    ∙ ap (at_place key) (omega arith)

words_long : (key : List ℕ) (m : ℕ) → length (words key m).0 ≡ 4 * m
unfolding word_bytes
words_long key zero = refl
words_long key (suc m) =
    length-append (words key m).0 (to_le_bytes w32 (next_word 10 (words key m).1).0)
    ∙ omega (arith, words_long key m)

-- byte i of the words
word_byte : (key : List ℕ) (m i : ℕ) → m < 2 ^ 68 → i < 4 * m → get_or (words key m).0 i 0 ≡ byte_at (i % 4) (word_at 10 key 0 (i / 4))
unfolding word_bytes
word_byte key zero i h below = absurd (omega arith)
word_byte key (suc m) i h below = elim (cases_lt i (4 * m)) [
  | inl before ↦
      get_or_append_left (words key m).0 (to_le_bytes w32 (next_word 10 (words key m).1).0) 0 i (omega (arith, words_long key m))
      ∙ word_byte key m i (omega arith) before
  | inr here ↦
      get_or-append_right (words key m).0 (to_le_bytes w32 (next_word 10 (words key m).1).0) (4 * m) i 0 (words_long key m) here
      ∙ ap (λ (g : ChaCha). get_or (to_le_bytes w32 (next_word 10 g).0) (i - 4 * m) 0) (words_after key m (omega arith))
      ∙ byte_of_word (word_at 10 key 0 m) (i - 4 * m) (omega arith)
      ∙ ap (λ (j : ℕ). byte_at j (word_at 10 key 0 m)) (omega arith)
      ∙ ap (λ (p : ℕ). byte_at (i % 4) (word_at 10 key 0 p)) (omega arith)
]

-- a buffer that the generator filled from its start on holds the start of the stream
pub filled : (seed : List ℕ) (n : ℕ) (out : List ℕ) → n ≤ 2 ^ 26 → out ≡ (fill_via_u32 (next_word 10) n (at_place (key_of seed) 0)).0
    → out ≡ stream_part seed 0 n
unfolding stream_byte stream_part
filled seed n out short is =
    let all = (words (key_of seed) ((n + 3) / 4)).0 in
    let long : length all ≡ 4 * ((n + 3) / 4) = words_long (key_of seed) ((n + 3) / 4) in
    let count : length out ≡ n = ap length is ∙ length-take-le n all (omega arith) in
    fill_by_all (λ k. stream_byte seed (4 * 0 + k)) out n 0 count
    (λ k below.
    ap (λ (xs : List ℕ). get_or xs k 0) is
    ∙ get_or-take n all k 0 below
    ∙ word_byte (key_of seed) ((n + 3) / 4) k (omega arith) (omega arith)
    ∙ ap (λ (j : ℕ). byte_at (j % 4) (word_at 10 (key_of seed) 0 (j / 4))) (omega arith))

-- ---- the length of the file

part_long : (key : List ℕ) (n : ℕ) → length (stream_part key 0 n) ≡ n
unfolding stream_part
part_long key n = length-map-range_with_len (λ k. stream_byte key (4 * 0 + k)) 0 n

pub file_short : (number : ℕ) → length (mill_file number) ≤ 2 ^ 26
unfolding mill_file
file_short number =
    let long : length (stream_part (mill_key number) 0 8388608) ≡ 8388608 = part_long (mill_key number) 8388608 in
    omega (arith, long)
