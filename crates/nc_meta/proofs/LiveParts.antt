-- A live meta as it is read.
use Rattle.std.proofs.Common.{arith, sym, ap, ◌∙◌, append_assoc}
use Rattle.std.proofs.lemmas.List.{take_all}
use Rattle.std.specs.Prelude.{ℕ, ◌≡◌, ◌+◌, ◌*◌, ◌<◌, ◌≤◌, ◌^◌, List, [], ◌∷◌, ◌++◌, length, slice_index, slice_index_or, take, drop}
use Rattle.nc_bytes.specs.Bytes.{padded, AreBytes, part, bytes_8}
use Rattle.nc_bytes.proofs.Places.{length-part}
use Rattle.nc_gf256.specs.Width.{native_count}
use Rattle.nc_code.specs.Parts.{IsCode}
use Rattle.nc_meta.specs.declared.meta.Live.{Live}
use Rattle.nc_meta.specs.Parts.{AreBits, IsGeneration, each}
use Rattle.nc_meta.specs.Metas.{IsLive, SpellsLive, SpellsWitnesses, stored_row}
use Rattle.nc_meta.proofs.Each.{each_parts, each_same}
use Rattle.nc_meta.proofs.Padding.{length-padded, padded_below, padded_full, padded_past, take_padded}
use Rattle.nc_meta.proofs.RowTables.{AreRead, HaveRoom, length-row, rows_past, table_read}
use Rattle.nc_meta.proofs.MetaParts.{live_of, slots_at, marks_at, tail_at}

-- what is tested and made of a payload
pub record LiveRead (n : ℕ) (payload : List ℕ) (m : Live) : Type 0 where
  pub narrow : n ≤ 10
  pub are : AreBytes payload
  pub long : tail_at n < length payload
  pub head : part 0 5 payload ≡ 0x4E ∷ 0x43 ∷ 0x4D ∷ 0x31 ∷ 1 ∷ []
  pub generation : IsGeneration m.generation
  pub generation_at : bytes_8 m.generation ≡ part 5 8 payload
  pub len : m.len ≤ 2 ^ 26
  pub len_at : bytes_8 m.len ≡ part 13 8 payload
  pub width : m.code.width ≡ n
  pub code : IsCode m.code
  pub rows : AreRead 16 21 (2 * n) (native_count n) payload m.code.rows
  pub bits : AreBits (part (slots_at n) n payload)
  pub slots : m.slots ≡ padded 10 (part (slots_at n) n payload)
  pub marks : AreRead 32 (marks_at n) (2 * n) 32 payload m.marks
  pub witnesses : SpellsWitnesses n (drop (tail_at n) payload) m.witnesses

pub live_read : (n : ℕ) (payload : List ℕ) (m : Live) → LiveRead n payload m → SpellsLive n payload m
live_read n payload m r =
    let slots_long : length (part (slots_at n) n payload) ≡ n = length-part (slots_at n) n payload (omega arith) in
    let rows_room : HaveRoom 16 21 (2 * n) (native_count n) payload = record { rows = omega arith; sizes = omega arith; fits = omega arith } in
    let marks_room : HaveRoom 32 (marks_at n) (2 * n) 32 payload = record { rows = omega arith; sizes = omega arith; fits = omega arith } in
    let row : (i : ℕ) → i < 2 * n → part (21 + i * native_count n) (native_count n) payload ≡ stored_row n m i =
    λ i l. sym (ap (take (native_count n)) (r.rows.rows i l)
    ∙ take_padded 16 (native_count n) (part (21 + i * native_count n) (native_count n) payload) (length-row 16 21 (2 * n) (native_count n) payload rows_room i l)) in
    let mark : (i : ℕ) → i < 2 * n → part (marks_at n + i * 32) 32 payload ≡ slice_index_or m.marks i [] =
    λ i l. sym (r.marks.rows i l ∙ padded_full 32 (part (marks_at n + i * 32) 32 payload) (length-row 32 (marks_at n) (2 * n) 32 payload marks_room i l)) in
    record {
      fits = record {
        generation = r.generation;
        len = r.len;
        width = r.width;
        code = r.code;
        slot_count = ap length r.slots ∙ length-padded 10 (part (slots_at n) n payload) (omega (arith, slots_long, r.narrow));
        slots = rw r.slots (padded_below 2 10 (part (slots_at n) n payload) (omega arith) r.bits);
        slots_past = λ c past. ap (λ (xs : List ℕ). slice_index xs c) r.slots ∙ padded_past 10 (part (slots_at n) n payload) c (omega (arith, slots_long));
        marks = table_read 32 (marks_at n) (2 * n) 32 payload m.marks marks_room r.are r.marks;
        marks_past = rows_past 32 (marks_at n) (2 * n) 32 payload m.marks r.marks;
        witnesses = r.witnesses.fits;
      };
      is_spelling = live_of n payload m (record {
        long = r.long;
        head = r.head;
        generation = sym r.generation_at;
        len = sym r.len_at;
        rows = sym (each_parts (2 * n) 21 (native_count n) payload) ∙ each_same (2 * n) (λ i. part (21 + i * native_count n) (native_count n) payload) (stored_row n m) row;
        slots = sym (ap (take n) r.slots ∙ take_padded 10 n (part (slots_at n) n payload) slots_long);
        marks = sym (each_parts (2 * n) (marks_at n) 32 payload) ∙ each_same (2 * n) (λ i. part (marks_at n + i * 32) 32 payload) (λ i. slice_index_or m.marks i []) mark;
        tail = r.witnesses.is_spelling;
      });
    }

-- seven parts, each written after the one before
pub chained : (b0 b1 b2 b3 b4 b5 b6 b7 x1 x2 x3 x4 x5 x6 x7 : List ℕ) → b0 ≡ [] → b1 ≡ b0 ++ x1 → b2 ≡ b1 ++ x2 → b3 ≡ b2 ++ x3
    → b4 ≡ b3 ++ x4 → b5 ≡ b4 ++ x5 → b6 ≡ b5 ++ x6 → b7 ≡ b6 ++ x7 → b7 ≡ x1 ++ (x2 ++ (x3 ++ (x4 ++ (x5 ++ (x6 ++ x7)))))
chained b0 b1 b2 b3 b4 b5 b6 b7 x1 x2 x3 x4 x5 x6 x7 e0 e1 e2 e3 e4 e5 e6 e7 =
    let one : b1 ≡ x1 = e1 ∙ ap (λ (l : List ℕ). l ++ x1) e0 in
    let all : b7 ≡ (((((x1 ++ x2) ++ x3) ++ x4) ++ x5) ++ x6) ++ x7 =
    e7 ∙ ap (λ (l : List ℕ). l ++ x7) (e6 ∙ ap (λ (l : List ℕ). l ++ x6) (e5 ∙ ap (λ (l : List ℕ). l ++ x5) (e4 ∙ ap (λ (l : List ℕ). l ++ x4)
    (e3 ∙ ap (λ (l : List ℕ). l ++ x3) (e2 ∙ ap (λ (l : List ℕ). l ++ x2) one))))) in
    all ∙ simp append_assoc

-- marks are written whole
pub marks_whole : (n : ℕ) (m : Live) → n ≤ 10 → IsLive n m
    → each (2 * n) (λ i. take 32 (slice_index_or m.marks i [])) ≡ each (2 * n) (λ i. slice_index_or m.marks i [])
marks_whole n m narrow is =
    each_same (2 * n) (λ i. take 32 (slice_index_or m.marks i [])) (λ i. slice_index_or m.marks i [])
    (λ i l. let long : length (slice_index_or m.marks i []) ≡ 32 = is.marks.widths i (omega arith) in take_all 32 (slice_index_or m.marks i []) (omega arith))
