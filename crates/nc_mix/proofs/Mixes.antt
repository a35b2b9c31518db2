-- Mixes of byte lists, and how they are added up.
use Rattle.std.proofs.Common.{◌≡◌, ℕ, ◌+◌, ◌*◌, ◌<◌, ◌≤◌, List, [], ◌∷◌, ◌++◌, length, get_or, map, replicate, take, refl, sym, ◌∙◌, ap, subst, arith}
use Rattle.std.proofs.lemmas.List.{length-map, length-replicate, get_or-map, get_or-replicate, get_or-take}
use Rattle.std.proofs.lemmas.List.FromFn.{fill_by_all, length-map-range_with_len, get_or-map-range_with_len}
use Rattle.std.proofs.lemmas.Simd.{map-map}
use Rattle.std.proofs.lemmas.Grind.{common_steps, same_number_lists}
use Rattle.std.specs.Prelude.{bit_xor}
use Rattle.std.specs.Int.Bits.{xor_assoc, xor_zero_l, xor_zero_r}
use Rattle.std.specs.Borrow.{Bor}
use Rattle.std.specs.List.{concat, range_with_len}
use Rattle.nc_gf256.specs.Field.{mul, total}
use Rattle.nc_gf256.specs.Width.{native_count}
use Rattle.nc_gf256.proofs.FieldLaws.{zero_mul_any}
use Rattle.nc_gf256.proofs.Sums.{total_nil, total_more, total_same}
use Rattle.nc_native.specs.Native.{native, natives_of, native_len, chunk_size, combination, AllLong}
use Rattle.nc_native.proofs.Pieces.{natives_count, native_at, native_len_of}
use Rattle.nc_code.specs.Parts.{CodeParts}
use Rattle.nc_mix.specs.Mixing.{mixed_byte, mixed, mixed_part, mixed_parts, chunk_by, chunks_of, AreChunksOf, lent, HasAdded, HasMultiples}

-- one source more is added to a byte
pub add_more : (i : ℕ) (row : List ℕ) (sources : List (List ℕ)) (p old prev new : ℕ) (source : List ℕ) → prev ≡ bit_xor old (mixed_byte i row sources p) →
    source ≡ get_or sources i [] → new ≡ bit_xor prev (mul (get_or row i 0) (get_or source p 0)) → new ≡ bit_xor old (mixed_byte (i + 1) row sources p)
add_more i row sources p old prev new source before is step =
    let term : ℕ → ℕ = λ k. mul (get_or row k 0) (get_or (get_or sources k []) p 0) in
    step
    ∙ ap (λ s. bit_xor prev (mul (get_or row i 0) (get_or s p 0))) is
    ∙ ap (λ q. bit_xor q (term i)) before
    ∙ xor_assoc old (total i term) (term i)
    ∙ ap (bit_xor old) (sym (total_more i term))

-- what no source is added to stays
pub none_added : (row : List ℕ) (sources : List (List ℕ)) (start : ℕ) (old : List ℕ) → HasAdded 0 row sources start old old
none_added row sources start old p h = sym (ap (bit_xor (get_or old p 0)) (total_nil (λ k. mul (get_or row k 0) (get_or (get_or sources k []) (start + p) 0))) ∙ xor_zero_r (get_or old p 0))

-- 0 times a source changes nothing
pub no_multiples : (factor : ℕ) (source : List ℕ) (start : ℕ) (old : List ℕ) → factor ≡ 0 → HasMultiples factor source start old old
no_multiples factor source start old e p h =
    let x : ℕ = get_or source (start + p) 0 in
    let none : mul factor x ≡ 0 = ap (λ f. mul f x) e ∙ zero_mul_any x in
    sym (ap (bit_xor (get_or old p 0)) none ∙ xor_zero_r (get_or old p 0))

pub length-part : (start count : ℕ) (row : List ℕ) (sources : List (List ℕ)) → length (mixed_part start count row sources) ≡ count
unfolding mixed_part
length-part start count row sources = length-map-range_with_len (mixed_byte (length sources) row sources) start count

-- what is added to zeros is the part of the mix
pub from_zeros : (start count : ℕ) (row : List ℕ) (sources : List (List ℕ)) (old new : List ℕ) → old ≡ replicate count 0 → length new ≡ count → HasAdded (length sources) row sources start old new
    → new ≡ mixed_part start count row sources
unfolding mixed_part
from_zeros start count row sources old new zeros long added =
    same_number_lists new (mixed_part start count row sources) (long ∙ sym (length-part start count row sources)) (λ p inside.
    let h : p < count = subst (λ m. p < m) long inside in
    let within : p < length old = subst (λ xs. p < length xs) (sym zeros) (subst (λ m. p < m) (sym (length-replicate count 0)) h) in
    added p within
    ∙ ap (λ x. bit_xor x (mixed_byte (length sources) row sources (start + p))) (ap (λ xs. get_or xs p 0) zeros ∙ get_or-replicate count p 0 0 h)
    ∙ xor_zero_l (mixed_byte (length sources) row sources (start + p))
    ∙ sym (get_or-map-range_with_len (mixed_byte (length sources) row sources) start count p (start + p) 0 h refl))

-- the list behind a reference, whatever is read past the end
pub lent_at : (sources : List (Bor (List ℕ))) (i : ℕ) (d : Bor (List ℕ)) → i < length sources → get_or (lent sources) i [] ≡ (get_or sources i d).now
lent_at sources i d h = get_or-map (λ s. s.now) sources i d [] h

pub lent_long : (sources : List (Bor (List ℕ))) (size i : ℕ) (d : Bor (List ℕ)) → AllLong size (lent sources) → i < length sources → length (get_or sources i d).now ≡ size
lent_long sources size i d long h =
    ap length (sym (lent_at sources i d h)) ∙ long i (subst (λ m. i < m) (sym (length-map sources (λ s. s.now))) h)

-- the mixes by the first rows are the first chunks
pub first_chunks : (count size : ℕ) (rows natives sources made : List (List ℕ)) → count ≤ length rows → size ≡ native_len natives → sources ≡ natives → made ≡ take count rows →
    map (λ row. mixed size row sources) made ≡ chunks_of count rows natives
first_chunks count size rows natives sources made within long same are =
    let first : take count rows ≡ map (λ k. get_or rows k []) (range_with_len 0 count) =
    fill_by_all (λ k. get_or rows k []) (take count rows) count [] (grind (arith, common_steps)) (λ k h. get_or-take count rows k [] h) in
    (λ i. map (λ row. mixed (long i) row (same i)) (are i))
    ∙ ap (map (λ row. mixed (native_len natives) row natives)) first
    ∙ map-map (λ row. mixed (native_len natives) row natives) (λ k. get_or rows k []) (range_with_len 0 count)

-- the mix of a file's natives is their combination
pub mixed_natives : (v row : List ℕ) (n : ℕ) → mixed (chunk_size (length v) n) row (natives_of v n) ≡ combination row v n
unfolding mixed combination
mixed_natives v row n =
    let term : ℕ → ℕ → ℕ = λ p i. mul (get_or row i 0) (get_or (get_or (natives_of v n) i []) p 0) in
    let wanted : ℕ → ℕ → ℕ = λ p i. mul (get_or row i 0) (get_or (native v n i) p 0) in
    let each : (p : ℕ) → total (length (natives_of v n)) (term p) ≡ total (native_count n) (wanted p) = λ p.
    ap (λ m. total m (term p)) (natives_count v n)
    ∙ total_same (native_count n) (term p) (wanted p) (λ i h. ap (λ xs. mul (get_or row i 0) (get_or xs p 0)) (native_at v n i h)) in
    λ j. map (λ p. each p j) (range_with_len 0 (chunk_size (length v) n))

-- the chunks of a file's natives are the file's
pub chunks_of_file : (code : CodeParts) (v : List ℕ) → 4 ≤ code.width → AreChunksOf code v (chunks_of (2 * code.width) code.rows (natives_of v code.width))
chunks_of_file code v wide =
    let natives : List (List ℕ) = natives_of v code.width in
    record {
      count = length-map-range_with_len (chunk_by code.rows natives) 0 (2 * code.width);
      each = λ c r hc hr.
          get_or-map-range_with_len (chunk_by code.rows natives) 0 (2 * code.width) (2 * c + r) (2 * c + r) [] (omega arith) (omega arith)
          ∙ ap (λ size. mixed size (get_or code.rows (2 * c + r) []) natives) (native_len_of v code.width wide)
          ∙ mixed_natives v (get_or code.rows (2 * c + r) []) code.width;
    }

-- the first source has the length of the natives
pub first_long : (sources : List (Bor (List ℕ))) (natives : List (List ℕ)) (d : Bor (List ℕ)) (n : ℕ) → lent sources ≡ natives → length natives ≡ native_count n → 4 ≤ n → length (get_or sources 0 d).now ≡ native_len natives
first_long sources natives d n same count wide =
    let many : length sources ≡ native_count n = sym (length-map sources (λ s. s.now)) ∙ ap length same ∙ count in
    ap length (sym (lent_at sources 0 d (omega arith))) ∙ ap (λ xs. length (get_or xs 0 [])) same

pub length-mixed : (size : ℕ) (row : List ℕ) (sources : List (List ℕ)) → length (mixed size row sources) ≡ size
unfolding mixed
length-mixed size row sources = length-map-range_with_len (mixed_byte (length sources) row sources) 0 size

-- the first row's part, and the parts after it
pub parts_more : (start count long : ℕ) (row : List ℕ) (rows rest sources : List (List ℕ)) (part after : List ℕ) → rows ≡ row ∷ rest → long ≡ count → part ≡ mixed_part start long row sources →
    after ≡ concat (mixed_parts start count rest sources) → part ++ after ≡ concat (mixed_parts start count rows sources)
parts_more start count long row rows rest sources part after are fits is others =
    (λ i. (is ∙ ap (λ n. mixed_part start n row sources) fits) i ++ others i) ∙ sym (ap (λ xs. concat (mixed_parts start count xs sources)) are)
