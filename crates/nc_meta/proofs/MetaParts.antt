-- What of a payload can be tested, and that it is all.
use Rattle.std.proofs.Common.{arith, refl, sym, ap, ◌∙◌, length-append}
use Rattle.std.proofs.lemmas.List.{length-drop, length-take-le, take_all}
use Rattle.std.specs.Prelude.{ℕ, ◌≡◌, ◌+◌, ◌*◌, ◌<◌, ◌≤◌, Option, None, Some, List, [], ◌∷◌, length, slice_index_or, take, drop}
use Rattle.nc_bytes.specs.Bytes.{part, bytes_8}
use Rattle.nc_bytes.proofs.Numbers.{length-bytes_8}
use Rattle.nc_bytes.proofs.Places.{joins, splits}
use Rattle.nc_gf256.specs.Width.{native_count}
use Rattle.nc_code.specs.declared.plan.Witnesses.{Witnesses}
use Rattle.nc_meta.specs.declared.meta.Live.{Live}
use Rattle.nc_meta.specs.Parts.{each}
use Rattle.nc_meta.specs.Metas.{IsLive, SpellsLive, gone_spelling, live_spelling, stored_row, witness_bytes}
use Rattle.nc_meta.proofs.Each.{length-each}

-- ---- a deleted file

pub record GoneShape (payload : List ℕ) (g : ℕ) : Type 0 where
  pub total : length payload ≡ 13
  pub head : part 0 5 payload ≡ 0x4E ∷ 0x43 ∷ 0x4D ∷ 0x31 ∷ 0 ∷ []
  pub generation : part 5 8 payload ≡ bytes_8 g

pub gone_shape : (payload : List ℕ) (g : ℕ) → payload ≡ gone_spelling g → GoneShape payload g
unfolding gone_spelling
gone_shape payload g e =
    let magic = 0x4E ∷ 0x43 ∷ 0x4D ∷ 0x31 ∷ 0 ∷ [] in
    let one = splits 0 5 payload magic (bytes_8 g) refl e in
    record {
      total = ap length e ∙ length-append magic (bytes_8 g) ∙ ap (λ n. 5 + n) (length-bytes_8 g);
      head = one.here;
      generation = ap (take 8) one.rest ∙ take_all 8 (bytes_8 g) (omega (arith, length-bytes_8 g));
    }

pub gone_of : (payload : List ℕ) (g : ℕ) → GoneShape payload g → payload ≡ gone_spelling g
unfolding gone_spelling
gone_of payload g s =
    let room : length (drop 5 payload) ≤ 8 = omega (arith, s.total, length-drop 5 payload) in
    joins 0 5 payload _ _ s.head (sym (take_all 8 (drop 5 payload) room) ∙ s.generation)

-- ---- a file with a content: where its parts stand

abbrev pub slots_at : ℕ → ℕ
slots_at n = 21 + 2 * n * native_count n

abbrev pub marks_at : ℕ → ℕ
marks_at n = slots_at n + n

abbrev pub tail_at : ℕ → ℕ
tail_at n = marks_at n + 2 * n * 32

pub record LiveShape (n : ℕ) (payload : List ℕ) (m : Live) : Type 0 where
  pub long : tail_at n < length payload
  pub head : part 0 5 payload ≡ 0x4E ∷ 0x43 ∷ 0x4D ∷ 0x31 ∷ 1 ∷ []
  pub generation : part 5 8 payload ≡ bytes_8 m.generation
  pub len : part 13 8 payload ≡ bytes_8 m.len
  pub rows : part 21 (2 * n * native_count n) payload ≡ each (2 * n) (stored_row n m)
  pub slots : part (slots_at n) n payload ≡ take n m.slots
  pub marks : part (marks_at n) (2 * n * 32) payload ≡ each (2 * n) (λ i. slice_index_or m.marks i [])
  pub tail : drop (tail_at n) payload ≡ witness_bytes n m.witnesses

some_tail : (n : ℕ) (w : Option Witnesses) → 0 < length (witness_bytes n w)
some_tail n None = omega arith
some_tail n (Some w) = omega arith

pub length-stored_row : (n : ℕ) (m : Live) → n ≤ 10 → IsLive n m → (i : ℕ) → i < 2 * n → length (stored_row n m i) ≡ native_count n
length-stored_row n m narrow is i l =
    let long : length (slice_index_or m.code.rows i []) ≡ 16 = is.code.shape.widths i (omega arith) in
    length-take-le (native_count n) (slice_index_or m.code.rows i []) (omega arith)

pub live_shape : (n : ℕ) (payload : List ℕ) (m : Live) → n ≤ 10 → SpellsLive n payload m → LiveShape n payload m
unfolding live_spelling
live_shape n payload m narrow s =
    let rows = length-each (2 * n) (native_count n) (stored_row n m) (length-stored_row n m narrow s.fits) in
    let marks = length-each (2 * n) 32 (λ i. slice_index_or m.marks i []) (λ i l. s.fits.marks.widths i (omega arith)) in
    let slots : length (take n m.slots) ≡ n = length-take-le n m.slots (omega (arith, s.fits.slot_count)) in
    let one = splits 0 5 payload (0x4E ∷ 0x43 ∷ 0x4D ∷ 0x31 ∷ 1 ∷ []) _ refl s.is_spelling in
    let two = splits 5 8 payload (bytes_8 m.generation) _ (length-bytes_8 m.generation) one.rest in
    let three = splits 13 8 payload (bytes_8 m.len) _ (length-bytes_8 m.len) two.rest in
    let four = splits 21 (2 * n * native_count n) payload (each (2 * n) (stored_row n m)) _ rows three.rest in
    let five = splits (slots_at n) n payload (take n m.slots) _ slots four.rest in
    let six = splits (marks_at n) (2 * n * 32) payload (each (2 * n) (λ i. slice_index_or m.marks i [])) (witness_bytes n m.witnesses) marks five.rest in
    let end : length (drop (tail_at n) payload) ≡ length (witness_bytes n m.witnesses) = ap length six.rest in
    record {
      long = omega (arith, length-drop (tail_at n) payload, some_tail n m.witnesses, end);
      head = one.here;
      generation = two.here;
      len = three.here;
      rows = four.here;
      slots = five.here;
      marks = six.here;
      tail = six.rest;
    }

pub live_of : (n : ℕ) (payload : List ℕ) (m : Live) → LiveShape n payload m → payload ≡ live_spelling n m
unfolding live_spelling
live_of n payload m s =
    let six = joins (marks_at n) (2 * n * 32) payload _ _ s.marks s.tail in
    let five = joins (slots_at n) n payload _ _ s.slots six in
    let four = joins 21 (2 * n * native_count n) payload _ _ s.rows five in
    let three = joins 13 8 payload _ _ s.len four in
    let two = joins 5 8 payload _ _ s.generation three in
    joins 0 5 payload _ _ s.head two
