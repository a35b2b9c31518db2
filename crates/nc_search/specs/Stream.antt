-- What is drawn: the key of a name, and the stream of bytes of a key.
use Rattle.std.specs.Prelude.{ℕ, ◌+◌, ◌*◌, ◌/◌, ◌%◌, ◌++◌, List, map}
use Rattle.std.specs.List.{range_with_len}
use Rattle.std.specs.Int.{byte_at}
use Rattle.sha2.specs.Sha256.{sha256}
use Rattle.rand_chacha.specs.ChaCha.{key_of, word_at}
use Rattle.nc_bytes.specs.Bytes.{bytes_8}

-- the SHA-256 (FIPS 180-4) of the seed, the name and the generation
abbrev pub draw_key : List ℕ → List ℕ → ℕ → List ℕ
draw_key seed name generation = sha256 ((seed ++ name) ++ bytes_8 generation)

-- byte i of the stream is byte i mod 4, the least significant first, of word i div 4 of ChaCha20 (RFC 8439, with a counter
-- of 64 bits) with this key and stream number 0
unfoldable pub stream_byte : List ℕ → ℕ → ℕ
stream_byte key i = byte_at (i % 4) (word_at 10 (key_of key) 0 (i / 4))

-- n bytes of the stream, from a word on
unfoldable pub stream_part : List ℕ → ℕ → ℕ → List ℕ
stream_part key word n = map (λ k. stream_byte key (4 * word + k)) (range_with_len 0 n)

-- how many words n bytes take
abbrev pub word_count : ℕ → ℕ
word_count n = (n + 3) / 4
