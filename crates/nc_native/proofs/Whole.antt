-- The natives that lie wholly in a file, and those behind them.
use Rattle.std.proofs.Math.Nat.{mul-le-mul_left, mul-le-mul_right, mul_comm, div-le_of_le-mul, div-mul-le_self}
use Rattle.std.proofs.Common.{◌≡◌, ℕ, ◌+◌, ◌-◌, ◌*◌, ◌<◌, ◌≤◌, min, max, List, [], ◌∷◌, ◌++◌, length, take, drop, map, replicate, sym, ◌∙◌, ap, subst, arith}
use Rattle.std.proofs.lemmas.List.{length-drop, take-append-drop, take_all, get_or-take}
use Rattle.std.proofs.lemmas.List.FromFn.{fill_by_all}
use Rattle.std.proofs.lemmas.Grind.{common_steps, same_number_lists}
use Rattle.std.specs.List.{range_with_len}
use Rattle.nc_gf256.specs.Width.{native_count}
use Rattle.nc_native.specs.Native.{native, natives_of, chunk_size, whole_count, tail_of}
use Rattle.nc_native.proofs.Pieces.{all_fit, natives_count, native_at, native_more}

pub whole_few : (len n : ℕ) → 4 ≤ n → whole_count len n ≤ native_count n
whole_few len n wide =
    let size : ℕ = chunk_size len n in
    let more : native_count n * size ≤ native_count n * max size 1 = mul-le-mul_left (native_count n) (omega arith) in
    let all : len ≤ native_count n * max size 1 = omega (arith, all_fit n len wide) in
    div-le_of_le-mul (max size 1) (subst (λ m. len ≤ m) (mul_comm (native_count n) (max size 1)) all)

pub whole_fit : (len n : ℕ) → whole_count len n * chunk_size len n ≤ len
whole_fit len n =
    let size : ℕ = chunk_size len n in
    let more : whole_count len n * size ≤ whole_count len n * max size 1 = mul-le-mul_left (whole_count len n) (omega arith) in
    let fits : whole_count len n * max size 1 ≤ len = div-mul-le_self len (max size 1) in
    omega arith

-- what is left has room for a native
pub whole_left : (v : List ℕ) (n size whole i : ℕ) (rest : List ℕ) → size ≡ chunk_size (length v) n → whole * chunk_size (length v) n ≤ length v → i < whole → rest ≡ drop (i * size) v → size ≤ length rest
whole_left v n size whole i rest e fits below is =
    let within : whole * size ≤ length v = subst (λ s. whole * s ≤ length v) (sym e) fits in
    let next : (i + 1) * size ≤ whole * size = mul-le-mul_right size (omega arith) in
    let long : length rest ≡ length v - i * size = ap length is ∙ length-drop (i * size) v in
    omega (arith, within, next, long)

-- one native more that lies wholly in the file
pub whole_more : (v : List ℕ) (n i size : ℕ) (rest front : List ℕ) (so_far : List (List ℕ)) → size ≡ chunk_size (length v) n → size ≤ length rest → rest ≡ drop (i * size) v → front ≡ take size rest →
    so_far ≡ map (native v n) (range_with_len 0 i) → so_far ++ (front ∷ []) ≡ map (native v n) (range_with_len 0 (i + 1))
whole_more v n i size rest front so_far e room is begins before =
    let full : size ≡ min size (length rest) = omega arith in
    let long : length front ≡ size = grind (arith, common_steps) in
    let whole : front ≡ front ++ replicate (size - length front) 0 = same_number_lists _ _ (grind (arith, common_steps)) (λ p h. grind (arith, common_steps)) in
    native_more v n 0 i size size rest front front so_far e (omega arith) is full begins whole before

-- the first natives are the first so many of all
pub first_natives : (v : List ℕ) (n whole : ℕ) → whole ≤ native_count n → take whole (natives_of v n) ≡ map (native v n) (range_with_len 0 whole)
first_natives v n whole few =
    let count : length (natives_of v n) ≡ native_count n = natives_count v n in
    fill_by_all (native v n) (take whole (natives_of v n)) whole [] (grind (arith, common_steps)) (λ k h. get_or-take whole (natives_of v n) k [] h ∙ native_at v n k (omega arith))

-- those that lie wholly in the file, and then its tail, are all
pub with_tail : (v : List ℕ) (n end : ℕ) (tail : List (List ℕ)) → length tail ≤ end → tail ≡ tail_of v n → take (whole_count (length v) n) (natives_of v n) ++ take end tail ≡ natives_of v n
with_tail v n end tail all is =
    let front : List (List ℕ) = take (whole_count (length v) n) (natives_of v n) in
    ap (λ xs. front ++ xs) (take_all end tail all ∙ is) ∙ take-append-drop (whole_count (length v) n) (natives_of v n)
