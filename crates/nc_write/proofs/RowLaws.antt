-- Chunks by their rows, one of each row for each cloud.
use Rattle.std.proofs.Common.{◌≡◌, ◌<◌, ◌+◌, ◌*◌, ◌++◌, ◌∷◌, [], ℕ, zero, suc, List, All, map, length, get_or, slice_index_or, drop, remove, refl, sym, ap, ◌∙◌, subst, arith}
use Rattle.std.proofs.lemmas.List.{drop-drop}
use Rattle.std.proofs.lemmas.Grind.{common_steps}
use Rattle.nc_code.specs.Codes.{code_row}
use Rattle.nc_code.specs.Parts.{CodeParts}
use Rattle.nc_mix.specs.Mixing.{AreChunksOf}
use Rattle.nc_native.specs.Native.{combination}
use Rattle.nc_meta.specs.declared.meta.Live.{Live}
use Rattle.nc_cloud.specs.Deciding.{AreAscending}
use Rattle.nc_cloud.specs.Rounds.{row}
use Rattle.nc_cloud.proofs.Rounds.{get_or-row, length-row, row_more}
use Rattle.nc_cloud.proofs.Decisions.{ascend_row}
use Rattle.nc_write.specs.declared.sealing.Placed.{Placed}
use Rattle.nc_write.specs.ByRow.{AreByRowTo}
use Rattle.nc_write.specs.Putting.{each_cloud, placed_of}
use Rattle.nc_write.specs.Writes.{AreOfFile, chunk_of, clouds_of}

-- ---- taken from the front of a list

-- the front of what is left
front_of : (chunks rest : List (List ℕ)) (x : List ℕ) (at place : ℕ) → x ≡ get_or rest 0 x → rest ≡ drop at chunks → at < length chunks → at ≡ place → x ≡ get_or chunks place []
front_of chunks rest x at place is left there same = grind (arith, common_steps)

removed_front : (xs : List (List ℕ)) → remove xs 0 ≡ drop 1 xs
removed_front [] = refl
removed_front (x ∷ xs) = refl

-- what is left without its front
rest_of : (chunks rest next : List (List ℕ)) (at place : ℕ) → next ≡ remove rest 0 → rest ≡ drop at chunks → at + 1 ≡ place → next ≡ drop place chunks
rest_of chunks rest next at place is left same = is ∙ removed_front rest ∙ ap (drop 1) left ∙ drop-drop 1 at chunks ∙ ap (λ k. drop k chunks) same

-- one chunk more
placed_more : (chunks : List (List ℕ)) (r count : ℕ) (old new : List Placed) (chunk : List ℕ) → old ≡ row (placed_of chunks r) 0 count
    → new ≡ old ++ record { cloud = count; chunk = chunk } ∷ [] → chunk ≡ slice_index_or chunks (2 * count + r) [] → new ≡ row (placed_of chunks r) 0 (count + 1)
placed_more chunks r count old new chunk was more is =
    more ∙ ap (λ (l : List Placed). l ++ record { cloud = count; chunk = chunk } ∷ []) was
    ∙ ap (λ (x : List ℕ). row (placed_of chunks r) 0 count ++ record { cloud = count; chunk = x } ∷ []) is
    ∙ sym (row_more (placed_of chunks r) count)

-- both chunks of the next cloud
pub pair_more : (chunks : List (List ℕ)) (count : ℕ) (zeros ones zeros_new ones_new : List Placed) (rest middle next : List (List ℕ)) (zero one : List ℕ) → AreByRowTo chunks count zeros ones rest → 2 * count + 1 < length chunks
    → zero ≡ get_or rest 0 zero → middle ≡ remove rest 0 → one ≡ get_or middle 0 one → next ≡ remove middle 0
    → zeros_new ≡ zeros ++ record { cloud = count; chunk = zero } ∷ [] → ones_new ≡ ones ++ record { cloud = count; chunk = one } ∷ []
    → AreByRowTo chunks (count + 1) zeros_new ones_new next
pair_more chunks count zeros ones zeros_new ones_new rest middle next first second was more first_is middle_is second_is next_is zeros_more ones_more =
    let left : middle ≡ drop (2 * count + 1) chunks = rest_of chunks rest middle (2 * count) (2 * count + 1) middle_is was.rest_is refl in
    record {
      zeros_are = placed_more chunks 0 count zeros zeros_new first was.zeros_are zeros_more (front_of chunks rest first (2 * count) (2 * count + 0) first_is was.rest_is (omega arith) (omega arith));
      ones_are = placed_more chunks 1 count ones ones_new second was.ones_are ones_more (front_of chunks middle second (2 * count + 1) (2 * count + 1) second_is left more refl);
      rest_is = rest_of chunks middle next (2 * count + 1) (2 * (count + 1)) next_is left (omega arith);
    }

-- ---- rows

map_row : {X Y : Type 0} (g : X → Y) (f : ℕ → X) (a k : ℕ) → map g (row f a k) ≡ row (λ c. g (f c)) a k
map_row g f a zero = refl
map_row g f a (suc k) = ap (λ ys. g (f a) ∷ ys) (map_row g f (suc a) k)

-- what holds of each cloud's entry
pub all_in_row : {X : Type 0} (P : X → Type 0) (f : ℕ → X) (n : ℕ) → ((c : ℕ) → c < n → P (f c)) → All P (row f 0 n)
all_in_row P f n each k d l =
    let within : k < n = let long : length (row f 0 n) ≡ n = length-row f 0 n in omega (arith, long, l) in
    let at : get_or (row f 0 n) k d ≡ f k = get_or-row f 0 n k d within ∙ ap f (omega arith) in
    subst P (sym at) (each k within)

-- what holds of all clouds holds of each
pub on_each : (P : ℕ → Type 0) (n : ℕ) → All P (each_cloud n) → (c : ℕ) → c < n → P c
on_each P n all c l =
    let within : c < length (each_cloud n) = let long : length (each_cloud n) ≡ n = length-row (λ k. k) 0 n in omega (arith, long, l) in
    let at : get_or (each_cloud n) c c ≡ c = get_or-row (λ k. k) 0 n c c l ∙ omega arith in
    subst P at (all c c within)

-- the clouds of a row of chunks are all clouds
pub clouds_are : (chunks : List (List ℕ)) (r n : ℕ) → clouds_of (row (placed_of chunks r) 0 n) ≡ each_cloud n
clouds_are chunks r n = map_row (λ x. x.cloud) (placed_of chunks r) 0 n

pub ascend_each : (n : ℕ) → AreAscending (λ c. c) n (each_cloud n)
ascend_each n = ascend_row (λ x. x) (λ x. x) (λ c. c) (λ c. refl) n (each_cloud n) (map_row (λ x. x) (λ c. c) 0 n)

-- the chunks of a file, by row
pub row_of_file : (n : ℕ) (m : Live) (code : CodeParts) (v : List ℕ) (chunks : List (List ℕ)) (r : ℕ) → m.code ≡ code → code.width ≡ n → r < 2 → AreChunksOf code v chunks → AreOfFile n m v r (row (placed_of chunks r) 0 n)
row_of_file n m code v chunks r code_is width_is pair are =
    all_in_row (λ (x : Placed). x.chunk ≡ chunk_of n m v r x.cloud) (placed_of chunks r) n
    (λ c l. are.each c r (omega (arith, l, width_is)) pair ∙ ap (combination (code_row code c r) v) width_is ∙ ap (λ (k : CodeParts). combination (code_row k c r) v n) (sym code_is))
