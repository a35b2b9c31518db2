-- A file comes back from the combinations of its natives: the inverse of their rows makes the natives again.
use Rattle.std.proofs.Common.{◌≡◌, ℕ, zero, suc, ◌+◌, ◌*◌, ◌/◌, ◌%◌, ◌<◌, ◌≤◌, List, [], ◌∷◌, length, get_or, take, map, refl, sym, ◌∙◌, ap, subst, inl, inr, arith}
use Rattle.std.proofs.lemmas.List.{length-map, length-take-le, get_or-map, get_or-take, get_or_past, get_or_default, same_lists}
use Rattle.std.proofs.lemmas.Bool.{cases_lt}
use Rattle.std.proofs.lemmas.List.FromFn.{get_or-map-range_with_len}
use Rattle.std.proofs.lemmas.Grind.{same_number_lists}
use Rattle.std.specs.List.{All, AllPairs, concat}
use Rattle.nc_bytes.specs.Bytes.{AreBytes}
use Rattle.nc_gf256.specs.Field.{mul, total}
use Rattle.nc_gf256.specs.Rows.{Independent}
use Rattle.nc_gf256.specs.Width.{native_count}
use Rattle.nc_gf256.proofs.FieldLaws.{mul_lt}
use Rattle.nc_gf256.proofs.Sums.{total_lt}
use Rattle.nc_native.specs.Native.{natives_of, chunk_size, AllLong}
use Rattle.nc_native.proofs.Pieces.{natives_count, natives_long, native_bytes, natives_back, all_fit}
use Rattle.nc_code.specs.Parts.{CodeParts, IsCode}
use Rattle.nc_code.specs.Codes.{code_row, IsMds, IsPairMds}
use Rattle.nc_matrix.specs.Cells.{row_of, entry}
use Rattle.nc_matrix.specs.Products.{IsVector, times}
use Rattle.nc_matrix.specs.Inverted.{IsInverse, IsRowAmong}
use Rattle.nc_mix.specs.declared.pieces.Piece.{Piece}
use Rattle.nc_mix.specs.Mixing.{mixed_byte, mixed}
use Rattle.nc_mix.specs.Decoding.{IsPieceOf, IsMixOf, Solves, IsSolution, IsLong, HoldsBytes, IsBefore, chunks_in, HoldsRows, solved}
use Rattle.nc_mix.proofs.Mixes.{length-mixed, mixed_natives}
use Rattle.nc_mix.proofs.Solving.{length-solved}
use Rattle.nc_mix.proofs.Missing.{IsAscending, LeavesOut, leaves_out}

pub no_piece : Piece
no_piece = record { cloud = 0; zero = []; one = [] }

-- ---- the chunks of pieces by number

pub length-chunks_in : (pieces : List Piece) → length (chunks_in pieces) ≡ 2 * length pieces
length-chunks_in [] = refl
length-chunks_in (x ∷ xs) = let rest : length (chunks_in xs) ≡ 2 * length xs = length-chunks_in xs in omega arith

-- chunk r of a piece
chunk_of : Piece → ℕ → List ℕ
chunk_of x zero = x.zero
chunk_of x (suc r) = x.one

chunks_at : (pieces : List Piece) (p r : ℕ) (d : Piece) → p < length pieces → r < 2 → get_or (chunks_in pieces) (2 * p + r) [] ≡ chunk_of (get_or pieces p d) r
unfolding chunk_of
chunks_at [] p r d h pair = absurd (omega arith)
chunks_at (x ∷ xs) zero zero d h pair = refl
chunks_at (x ∷ xs) zero (suc zero) d h pair = refl
chunks_at (x ∷ xs) zero (suc (suc r)) d h pair = absurd (omega arith)
chunks_at (x ∷ xs) (suc p) r d h pair =
    let e : 2 * suc p + r ≡ suc (suc (2 * p + r)) = omega arith in
    ap (λ k. get_or (x.zero ∷ x.one ∷ chunks_in xs) k []) e ∙ chunks_at xs p r d (omega arith) pair

piece_chunk : (code : CodeParts) (size : ℕ) (natives : List (List ℕ)) (x : Piece) (r : ℕ) → IsMixOf code size natives x → r < 2 → chunk_of x r ≡ mixed size (code_row code x.cloud r) natives
unfolding chunk_of
piece_chunk code size natives x zero is h = is.zero
piece_chunk code size natives x (suc zero) is h = is.one
piece_chunk code size natives x (suc (suc r)) is h = absurd (omega arith)

chunk_long : (size : ℕ) (x : Piece) (r : ℕ) → IsLong size x → r < 2 → length (chunk_of x r) ≡ size
unfolding chunk_of
chunk_long size x zero long h = long.zero
chunk_long size x (suc zero) long h = long.one
chunk_long size x (suc (suc r)) long h = absurd (omega arith)

chunk_bytes : (x : Piece) (r : ℕ) → HoldsBytes x → r < 2 → AreBytes (chunk_of x r)
unfolding chunk_of
chunk_bytes x zero are h = are.zero
chunk_bytes x (suc zero) are h = are.one
chunk_bytes x (suc (suc r)) are h = absurd (omega arith)

-- ---- the natives, byte by byte

pub mixed_at : (size : ℕ) (row : List ℕ) (sources : List (List ℕ)) (p : ℕ) → p < size → get_or (mixed size row sources) p 0 ≡ mixed_byte (length sources) row sources p
unfolding mixed
mixed_at size row sources p h = get_or-map-range_with_len (mixed_byte (length sources) row sources) 0 size p p 0 h (omega arith)

-- pieces whose chunks have so many bytes, the square a of their rows, and its inverse b
pub record IsSolvable (code : CodeParts) (size : ℕ) (pieces : List Piece) (a b : List (List ℕ)) : Type 0 where
  pub is_code : IsCode code
  pub count : length pieces + 2 ≡ code.width
  pub rows : HoldsRows code pieces a
  pub inverse : IsInverse (native_count code.width) a b
  pub long : All (IsLong size) pieces
  pub bytes : All HoldsBytes pieces

module _ (code : CodeParts) (size : ℕ) (pieces : List Piece) (a b : List (List ℕ)) (s : IsSolvable code size pieces a b) where
  abbrev m : ℕ
  m = native_count code.width

  abbrev piece_at : ℕ → Piece
  piece_at k = get_or pieces (k / 2) no_piece

  many : length (chunks_in pieces) ≡ m
  many = let count : length pieces + 2 ≡ code.width = s.count in let n : length (chunks_in pieces) ≡ 2 * length pieces = length-chunks_in pieces in omega arith

  in_place : (k : ℕ) → k < m → k / 2 < length pieces
  in_place k h = let count : length pieces + 2 ≡ code.width = s.count in omega arith

  chunk_at : (k : ℕ) → k < m → get_or (chunks_in pieces) k [] ≡ chunk_of (piece_at k) (k % 2)
  chunk_at k h =
      let whole : 2 * (k / 2) + k % 2 ≡ k = omega arith in
      ap (λ j. get_or (chunks_in pieces) j []) (sym whole) ∙ chunks_at pieces (k / 2) (k % 2) no_piece (in_place k h) (omega arith)

  row_at : (k : ℕ) → k < m → row_of a k ≡ code_row code (piece_at k).cloud (k % 2)
  row_at k h =
      let whole : 2 * (k / 2) + k % 2 ≡ k = omega arith in
      ap (row_of a) (sym whole) ∙ s.rows.each (k / 2) (k % 2) no_piece (in_place k h) (omega arith)

  row_bytes : (k : ℕ) → k < m → AreBytes (row_of a k)
  row_bytes k h = subst (λ row. AreBytes row) (sym (row_at k h)) (s.is_code.shape.bytes (2 * (piece_at k).cloud + k % 2))

  -- byte p of each chunk
  abbrev chunks_byte : ℕ → ℕ → ℕ
  chunks_byte p k = get_or (get_or (chunks_in pieces) k []) p 0

  chunks_vector : (p : ℕ) → IsVector m (chunks_byte p)
  chunks_vector p k h = subst (λ xs. get_or xs p 0 < 256) (sym (chunk_at k h)) (chunk_bytes (piece_at k) (k % 2) (s.bytes (k / 2) no_piece (in_place k h)) (omega arith) p)

  -- byte p of each native
  abbrev natives_byte : List (List ℕ) → ℕ → ℕ → ℕ
  natives_byte natives p i = get_or (get_or natives i []) p 0

  -- the combinations of natives are the chunks where the rows send the natives' bytes to the chunks'
  chunk_sent : (natives : List (List ℕ)) (k p : ℕ) → length natives ≡ m → All (IsMixOf code size natives) pieces → k < m → p < size → times m a k (natives_byte natives p) ≡ chunks_byte p k
  chunk_sent natives k p count mixes h below =
      let row : List ℕ = code_row code (piece_at k).cloud (k % 2) in
      ap (λ n. total n (λ i. mul (entry a k i) (natives_byte natives p i))) (sym count)
      ∙ ap (λ xs. mixed_byte (length natives) xs natives p) (row_at k h)
      ∙ sym (mixed_at size row natives p below)
      ∙ ap (λ xs. get_or xs p 0) (sym (piece_chunk code size natives (piece_at k) (k % 2) (mixes (k / 2) no_piece (in_place k h)) (omega arith)))
      ∙ ap (λ xs. get_or xs p 0) (sym (chunk_at k h))

  -- ---- the natives that the inverse makes

  module _ (rows : List (List ℕ)) (count : length rows ≡ m) (first : rows ≡ take m b) where
    abbrev made : List (List ℕ)
    made = map (λ row. mixed size row (chunks_in pieces)) rows

    made_count : length made ≡ m
    made_count = length-map rows (λ row. mixed size row (chunks_in pieces)) ∙ count

    made_at : (i : ℕ) → i < m → get_or made i [] ≡ mixed size (row_of b i) (chunks_in pieces)
    made_at i h =
        get_or-map (λ row. mixed size row (chunks_in pieces)) rows i [] [] (subst (λ w. i < w) (sym count) h)
        ∙ ap (λ row. mixed size row (chunks_in pieces)) (ap (λ xs. get_or xs i []) first ∙ get_or-take m b i [] h)

    made_long : (i : ℕ) → i < m → length (get_or made i []) ≡ size
    made_long i h = ap length (made_at i h) ∙ length-mixed size (row_of b i) (chunks_in pieces)

    made_byte : (i p : ℕ) → i < m → p < size → natives_byte made p i ≡ times m b i (chunks_byte p)
    made_byte i p h below =
        ap (λ xs. get_or xs p 0) (made_at i h)
        ∙ mixed_at size (row_of b i) (chunks_in pieces) p below
        ∙ ap (λ n. total n (λ k. mul (entry b i k) (chunks_byte p k))) many

    made_bytes : (i : ℕ) → AreBytes (get_or made i [])
    made_bytes i p = elim (cases_lt i m) [
      | inl h ↦ elim (cases_lt p size) [
        | inl below ↦ subst (λ w. w < 256) (sym (made_byte i p h below)) (total_lt m (λ k. mul (entry b i k) (chunks_byte p k)) (λ k _. mul_lt (entry b i k) (chunks_byte p k) (s.inverse.bytes i k)))
        | inr past ↦ subst (λ w. w < 256) (sym (get_or_past (get_or made i []) p 0 (subst (λ w. w ≤ p) (sym (made_long i h)) past))) (omega arith)
      ]
      | inr out ↦ subst (λ xs. get_or xs p 0 < 256) (sym (get_or_past made i [] (subst (λ w. w ≤ i) (sym made_count) out))) (omega arith)
    ]

    made_vector : (p : ℕ) → IsVector m (natives_byte made p)
    made_vector p i h = made_bytes i p

    made_mix : (q r : ℕ) (d : Piece) → q < length pieces → r < 2 → chunk_of (get_or pieces q d) r ≡ mixed size (code_row code (get_or pieces q d).cloud r) made
    made_mix q r d h pair =
        let count : length pieces + 2 ≡ code.width = s.count in
        let within : 2 * q + r < m = omega arith in
        let row : List ℕ = code_row code (get_or pieces q d).cloud r in
        let long : length (chunk_of (get_or pieces q d) r) ≡ size = chunk_long size (get_or pieces q d) r (s.long q d h) pair in
        same_number_lists _ _ (long ∙ sym (length-mixed size row made)) (λ p inside.
        let below : p < size = subst (λ w. p < w) long inside in
        ap (λ xs. get_or xs p 0) (sym (chunks_at pieces q r d h pair))
        ∙ sym (s.inverse.out_of (natives_byte made p) (chunks_byte p) (made_vector p) (chunks_vector p) (λ i hi. made_byte i p hi below) (2 * q + r) within)
        ∙ ap (λ n. total n (λ i. mul (entry a (2 * q + r) i) (natives_byte made p i))) (sym made_count)
        ∙ ap (λ xs. mixed_byte (length made) xs made p) (s.rows.each q r d h pair)
        ∙ sym (mixed_at size row made p below))

    made_pieces : All (IsMixOf code size made) pieces
    unfolding chunk_of
    made_pieces q d h = record { zero = made_mix q 0 d h (omega arith); one = made_mix q 1 d h (omega arith) }

    made_solve : (len : ℕ) → size ≡ chunk_size len code.width → Solves code len pieces made
    made_solve len is = record {
      count = made_count;
      long = λ i h. made_long i (subst (λ w. i < w) made_count h) ∙ is;
      bytes = made_bytes;
      mixes = subst (λ z. All (IsMixOf code z made) pieces) is made_pieces;
    }

    -- natives that solve the pieces are these
    made_only : (len : ℕ) (others : List (List ℕ)) → size ≡ chunk_size len code.width → Solves code len pieces others → others ≡ made
    made_only len others is solve =
        let mixes : All (IsMixOf code size others) pieces = subst (λ z. All (IsMixOf code z others) pieces) (sym is) solve.mixes in
        same_lists others made (solve.count ∙ sym made_count) (λ i d within.
        let h : i < m = subst (λ w. i < w) solve.count within in
        let long : length (get_or others i []) ≡ size = solve.long i within ∙ sym is in
        get_or_default others i d [] within
        ∙ same_number_lists _ _ (long ∙ sym (made_long i h)) (λ p inside.
        let below : p < size = subst (λ w. p < w) long inside in
        s.inverse.into (natives_byte others p) (chunks_byte p) (λ j hj. solve.bytes j p) (chunks_vector p)
        (λ k hk. chunk_sent others k p solve.count mixes hk below) i h
        ∙ sym (made_byte i p h below))
        ∙ sym (get_or_default made i d [] (subst (λ w. i < w) (sym made_count) h)))

    pub solution : (len : ℕ) (file : List ℕ) → size ≡ chunk_size len code.width → file ≡ take len (solved size (chunks_in pieces) rows) → IsSolution code len pieces file
    solution len file is same = record {
      natives = made;
      solve = made_solve len is;
      only = λ others solve. made_only len others is solve;
      first = same;
    }

-- ---- the file

-- the natives of a file solve its pieces
natives_solve : (code : CodeParts) (v : List ℕ) (pieces : List Piece) → AreBytes v → All (IsPieceOf code v) pieces → Solves code (length v) pieces (natives_of v code.width)
natives_solve code v pieces bytes chunks = record {
  count = natives_count v code.width;
  long = natives_long v code.width;
  bytes = λ i. native_bytes v code.width i bytes;
  mixes = λ q d h. record {
    zero = (chunks q d h).zero ∙ sym (mixed_natives v (code_row code (get_or pieces q d).cloud 0) code.width);
    one = (chunks q d h).one ∙ sym (mixed_natives v (code_row code (get_or pieces q d).cloud 1) code.width);
  };
}

-- the solution of a file's pieces is the file
pub file_back : (code : CodeParts) (v : List ℕ) (pieces : List Piece) (len : ℕ) (file : List ℕ) → 4 ≤ code.width → IsSolution code len pieces file → AreBytes v → length v ≡ len → All (IsPieceOf code v) pieces → file ≡ v
file_back code v pieces len file wide s bytes long chunks =
    let n : ℕ = code.width in
    let natives : natives_of v n ≡ s.natives = s.only (natives_of v n) (subst (λ l. Solves code l pieces (natives_of v n)) long (natives_solve code v pieces bytes chunks)) in
    s.first
    ∙ ap (λ ns. take len (concat ns)) (sym natives)
    ∙ ap (λ l. take l (concat (natives_of v n))) (sym long)
    ∙ natives_back v n wide

-- ---- the rows are independent

pub free_rows : (code : CodeParts) (pieces : List Piece) (a : List (List ℕ)) → IsMds code → length pieces + 2 ≡ code.width → AllPairs IsBefore pieces → All (λ x. x.cloud < code.width) pieces → HoldsRows code pieces a →
    Independent (native_count code.width) (IsRowAmong (native_count code.width) a)
free_rows code pieces a mds count ascending in_width holds =
    let k : ℕ = length pieces in
    let f : ℕ → ℕ = λ p. (get_or pieces p no_piece).cloud in
    let rising : IsAscending k f = record {
      step = λ p q h below. ascending p q no_piece h below;
      below = λ p h. subst (λ w. f p < w) (sym count) (in_width p no_piece h);
    } in
    let out : LeavesOut k f = leaves_out k f rising in
    let pair : IsPairMds code out.first out.second = mds out.first out.second out.apart (subst (λ w. out.second < w) count out.within) in
    record {
      only_zeros = λ v bytes sent. pair.free.only_zeros v bytes (λ row is.
          let found = out.others is.cloud (subst (λ w. is.cloud < w) (sym count) is.in_width) is.not_first is.not_second in
          let below : found.0 < length pieces = found.1 in
          let place : is.place < 2 = is.in_pair in
          let same : row ≡ row_of a (2 * found.0 + is.place) =
          is.is_row ∙ ap (λ c. code_row code c is.place) (sym found.2) ∙ sym (holds.each found.0 is.place no_piece below place) in
          sent row (2 * found.0 + is.place, omega arith, same));
    }

-- ---- what decoding needs and gives

-- all chunks of the pieces have one length
pub chunks_long : (pieces : List Piece) (size : ℕ) → All (IsLong size) pieces → AllLong size (chunks_in pieces)
unfolding chunk_of
chunks_long pieces size long i h =
    let below : i < 2 * length pieces = subst (λ n. i < n) (length-chunks_in pieces) h in
    let place : i / 2 < length pieces = omega arith in
    let whole : 2 * (i / 2) + i % 2 ≡ i = omega arith in
    let x : Piece = get_or pieces (i / 2) no_piece in
    ap (λ j. length (get_or (chunks_in pieces) j [])) (sym whole)
    ∙ ap length (chunks_at pieces (i / 2) (i % 2) no_piece place (omega arith))
    ∙ chunk_long size x (i % 2) (long (i / 2) no_piece place) (omega arith)

-- the file has the length that is asked for
pub length_back : (n len size : ℕ) (sources rows : List (List ℕ)) → 4 ≤ n → length rows ≡ native_count n → size ≡ chunk_size len n → length (take len (solved size sources rows)) ≡ len
length_back n len size sources rows wide many is =
    let whole : length (solved size sources rows) ≡ native_count n * chunk_size len n = length-solved size sources rows ∙ ap (λ k. k * size) many ∙ ap (λ z. native_count n * z) is in
    length-take-le len (solved size sources rows) (subst (λ k. len ≤ k) (sym whole) (all_fit n len wide))
