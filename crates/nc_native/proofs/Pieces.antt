-- Pieces of a list of bytes, side by side.
use Rattle.std.proofs.Math.ListN.{drop_of_length-le}
use Rattle.std.proofs.Common.{◌≡◌, ℕ, ◌+◌, ◌-◌, ◌*◌, ◌<◌, ◌≤◌, zero, suc, min, List, [], ◌∷◌, ◌++◌, length, get_or, take, drop, map, replicate, inl, inr, sym, ◌∙◌, ap, subst, lit<, arith}
use Rattle.std.proofs.lemmas.List.{length-drop, drop-append-le, append-nil, take_more, get_or_past}
use Rattle.std.proofs.lemmas.List.FromFn.{length-map-range_with_len, get_or-map-range_with_len, map-range_with_len_more}
use Rattle.std.proofs.lemmas.List.Folds.{concat-append}
use Rattle.std.proofs.lemmas.Bool.{cases_lt}
use Rattle.std.proofs.lemmas.Grind.{common_steps, div_ceil_times, same_number_lists}
use Rattle.std.specs.List.{range_with_len, concat}
use Rattle.nc_bytes.specs.Bytes.{AreBytes}
use Rattle.nc_gf256.specs.Width.{native_count}
use Rattle.nc_native.specs.Native.{piece, native, natives_of, native_len, AllLong, chunk_size, combination}
use Rattle.nc_gf256.specs.Field.{mul, total}

pub length-piece : (v : List ℕ) (start size : ℕ) → length (piece v start size) ≡ size
unfolding piece
length-piece v start size = length-map-range_with_len (λ p. get_or v (start + p) 0) 0 size

pub piece_at : (v : List ℕ) (start size p : ℕ) → p < size → get_or (piece v start size) p 0 ≡ get_or v (start + p) 0
unfolding piece
piece_at v start size p h = get_or-map-range_with_len (λ q. get_or v (start + q) 0) 0 size p p 0 h (omega arith)

-- two pieces side by side are one
pub piece-append : (v : List ℕ) (start a mid b all : ℕ) → start + a ≡ mid → a + b ≡ all → piece v start a ++ piece v mid b ≡ piece v start all
piece-append v start a mid b all m e =
    same_number_lists _ _ (grind (arith, common_steps, length-piece)) (λ k h. grind (arith, common_steps, length-piece, piece_at))

-- the front of what is left, and zeros
pub padded_piece : (v : List ℕ) (start size k : ℕ) → k ≡ min size (length v - start) → take k (drop start v) ++ replicate (size - k) 0 ≡ piece v start size
padded_piece v start size k e =
    same_number_lists _ _ (grind (arith, common_steps, length-piece)) (λ p h. grind (arith, common_steps, length-piece, piece_at))

-- the pieces of one size, one after another, are one piece
pub concat-pieces : (v : List ℕ) (size n : ℕ) → concat (map (λ i. piece v (i * size) size) (range_with_len 0 n)) ≡ piece v 0 (n * size)
unfolding piece
concat-pieces v size zero = let e : 0 ≡ 0 * size = omega arith in ap (piece v 0) e
concat-pieces v size (suc n) =
    let f : ℕ → List ℕ = λ i. piece v (i * size) size in
    let next : suc n ≡ n + 1 = omega arith in
    let front : List (List ℕ) = map f (range_with_len 0 n) in
    ap (λ m. concat (map f (range_with_len 0 m))) next
    ∙ ap concat (map-range_with_len_more f 0 n n (omega arith))
    ∙ concat-append front (f n ∷ [])
    ∙ ap (λ xs. concat front ++ xs) (append-nil (f n))
    ∙ ap (λ xs. xs ++ f n) (concat-pieces v size n)
    ∙ piece-append v 0 (n * size) (n * size) size (suc n * size) (omega arith) (omega arith)

-- a piece that holds the whole list begins with it
pub take-piece : (v : List ℕ) (size : ℕ) → length v ≤ size → take (length v) (piece v 0 size) ≡ v
take-piece v size h =
    same_number_lists _ _ (grind (arith, common_steps, length-piece)) (λ p h. grind (arith, common_steps, length-piece, piece_at))

pub all_fit : (n len : ℕ) → 4 ≤ n → len ≤ native_count n * chunk_size len n
all_fit n len h = grind (arith, div_ceil_times len (native_count n))

-- the natives side by side hold the file
pub natives_fit : (v : List ℕ) (n : ℕ) → 4 ≤ n → length v ≤ length (concat (natives_of v n))
natives_fit v n h =
    let size : ℕ = chunk_size (length v) n in
    let whole : length (concat (natives_of v n)) ≡ native_count n * size =
    ap length (concat-pieces v size (native_count n)) ∙ length-piece v 0 (native_count n * size) in
    rw whole (all_fit n (length v) h)

-- and begin with it
pub natives_back : (v : List ℕ) (n : ℕ) → 4 ≤ n → take (length v) (concat (natives_of v n)) ≡ v
natives_back v n h =
    let size : ℕ = chunk_size (length v) n in
    ap (take (length v)) (concat-pieces v size (native_count n)) ∙ take-piece v (native_count n * size) (all_fit n (length v) h)

join_step : (wanted : ℕ) (front x : List ℕ) → take wanted front ++ take (min (wanted - length (take wanted front)) (length x)) x ≡ take wanted (front ++ x)
join_step wanted front x = same_number_lists _ _ (grind (arith, common_steps)) (λ p h. grind (arith, common_steps))

-- one native more is joined
pub join_more : (wanted : ℕ) (natives : List (List ℕ)) (i : ℕ) (x done : List ℕ) → i < length natives → x ≡ get_or natives i x → done ≡ take wanted (concat (take i natives)) →
    done ++ take (min (wanted - length done) (length x)) x ≡ take wanted (concat (take (i + 1) natives))
join_more wanted natives i x done h is so_far =
    let front : List ℕ = concat (take i natives) in
    let more : concat (take (i + 1) natives) ≡ front ++ x =
    ap concat (take_more natives i x h) ∙ concat-append (take i natives) (get_or natives i x ∷ []) ∙ ap (λ xs. front ++ xs) (append-nil (get_or natives i x) ∙ sym is) in
    let step : take wanted front ++ take (min (wanted - length (take wanted front)) (length x)) x ≡ take wanted (front ++ x) = join_step wanted front x in
    subst (λ d. d ++ take (min (wanted - length d) (length x)) x ≡ take wanted (concat (take (i + 1) natives))) (sym so_far) (step ∙ ap (take wanted) (sym more))

pub natives_count : (v : List ℕ) (n : ℕ) → length (natives_of v n) ≡ native_count n
natives_count v n = length-map-range_with_len (native v n) 0 (native_count n)

pub native_at : (v : List ℕ) (n i : ℕ) → i < native_count n → get_or (natives_of v n) i [] ≡ native v n i
native_at v n i h = get_or-map-range_with_len (native v n) 0 (native_count n) i i [] h (omega arith)

-- each native has the size of a chunk
pub natives_long : (v : List ℕ) (n i : ℕ) → i < length (natives_of v n) → length (get_or (natives_of v n) i []) ≡ chunk_size (length v) n
natives_long v n i h =
    let below : i < native_count n = subst (λ m. i < m) (natives_count v n) h in
    ap length (native_at v n i below) ∙ length-piece v (i * chunk_size (length v) n) (chunk_size (length v) n)

pub all_long : (v : List ℕ) (n : ℕ) → 4 ≤ n → AllLong (native_len (natives_of v n)) (natives_of v n)
all_long v n h i below =
    let some : 0 < native_count n = omega arith in
    natives_long v n i below ∙ sym (natives_long v n 0 (subst (λ m. 0 < m) (sym (natives_count v n)) some))

-- so that is the length of the first
pub native_len_of : (v : List ℕ) (n : ℕ) → 4 ≤ n → native_len (natives_of v n) ≡ chunk_size (length v) n
native_len_of v n h =
    let some : 0 < native_count n = omega arith in
    natives_long v n 0 (subst (λ m. 0 < m) (sym (natives_count v n)) some)

piece_bytes : (v : List ℕ) (start size : ℕ) → AreBytes v → AreBytes (piece v start size)
piece_bytes v start size bytes p = elim (cases_lt p size) [
  | inl h ↦ subst (λ x. x < 256) (sym (piece_at v start size p h)) (bytes (start + p))
  | inr past ↦ let none : get_or (piece v start size) p 0 ≡ 0 = get_or_past (piece v start size) p 0 (subst (λ m. m ≤ p) (sym (length-piece v start size)) past) in subst (λ x. x < 256) (sym none) (lit< tt)
]

-- the natives of bytes are bytes
pub native_bytes : (v : List ℕ) (n i : ℕ) → AreBytes v → AreBytes (get_or (natives_of v n) i [])
native_bytes v n i bytes = elim (cases_lt i (native_count n)) [
  | inl h ↦ subst (λ xs. AreBytes xs) (sym (native_at v n i h)) (piece_bytes v (i * chunk_size (length v) n) (chunk_size (length v) n) bytes)
  | inr past ↦ let none : get_or (natives_of v n) i [] ≡ [] = get_or_past (natives_of v n) i [] (subst (λ m. m ≤ i) (sym (natives_count v n)) past) in subst (λ xs. AreBytes xs) (sym none) (λ p. lit< tt)
]

-- one native more is cut off
pub rest_more : (v : List ℕ) (size i k : ℕ) (rest : List ℕ) → rest ≡ drop (i * size) v → k ≡ min size (length rest) → drop k rest ≡ drop ((i + 1) * size) v
rest_more v size i k rest is so =
    subst (λ r. drop k r ≡ drop ((i + 1) * size) v) (sym is)
    (let same : k ≡ min size (length v - i * size) = so ∙ ap (λ r. min size (length r)) is ∙ ap (min size) (length-drop (i * size) v) in
    same_number_lists _ _ (grind (arith, common_steps)) (λ p h. grind (arith, common_steps)))

pub native_more : (v : List ℕ) (n first i k size : ℕ) (rest front chunk : List ℕ) (natives : List (List ℕ)) → size ≡ chunk_size (length v) n → first ≤ i → rest ≡ drop (i * size) v →
    k ≡ min size (length rest) → front ≡ take k rest → chunk ≡ front ++ replicate (size - length front) 0 → natives ≡ drop first (map (native v n) (range_with_len 0 i)) →
    natives ++ (chunk ∷ []) ≡ drop first (map (native v n) (range_with_len 0 (i + 1)))
native_more v n first i k size rest front chunk natives e from is so begins ends so_far =
    let same : k ≡ min size (length v - i * size) = so ∙ ap (λ r. min size (length r)) is ∙ ap (min size) (length-drop (i * size) v) in
    let front_is : front ≡ take k (drop (i * size) v) = begins ∙ ap (take k) is in
    let long : length front ≡ k = grind (arith, common_steps) in
    let chunk_is : chunk ≡ piece v (i * size) size =
    ends ∙ ap (λ m. front ++ replicate (size - m) 0) long ∙ ap (λ xs. xs ++ replicate (size - k) 0) front_is ∙ padded_piece v (i * size) size k same in
    let chunk_native : chunk ≡ native v n i = chunk_is ∙ ap (λ s. piece v (i * s) s) e in
    let before : List (List ℕ) = map (native v n) (range_with_len 0 i) in
    let reached : first ≤ length before = subst (λ m. first ≤ m) (sym (length-map-range_with_len (native v n) 0 i)) from in
    ap (λ ns. ns ++ (chunk ∷ [])) so_far
    ∙ ap (λ x. drop first before ++ (x ∷ [])) chunk_native
    ∙ sym (drop-append-le first before (native v n i ∷ []) reached)
    ∙ ap (drop first) (sym (map-range_with_len_more (native v n) 0 i i (omega arith)))

-- no native before the first
pub none_yet : (v : List ℕ) (n first : ℕ) → [] ≡ drop first (map (native v n) (range_with_len 0 first))
none_yet v n first =
    let long : length (map (native v n) (range_with_len 0 first)) ≡ first = length-map-range_with_len (native v n) 0 first in
    sym (drop_of_length-le (map (native v n) (range_with_len 0 first)) (omega (arith, long)))

-- a combination has the size of a chunk
pub length-combination : (row v : List ℕ) (n : ℕ) → length (combination row v n) ≡ chunk_size (length v) n
unfolding combination
length-combination row v n = length-map-range_with_len (λ p. total (native_count n) (λ i. mul (get_or row i 0) (get_or (native v n i) p 0))) 0 (chunk_size (length v) n)
