-- What a repair makes of chosen chunks: the chunks of the new rows.
use Rattle.std.proofs.Common.{◌≡◌, ◌≢◌, ℕ, zero, suc, ◌+◌, ◌<◌, ◌≤◌, List, [], length, get_or, sym, ◌∙◌, ap, subst, inl, inr, arith}
use Rattle.std.proofs.lemmas.Bool.{cases_lt}
use Rattle.std.proofs.lemmas.Bool.Decides.{nat_tests}
use Rattle.std.proofs.lemmas.List.FromFn.{get_or-map-range_with_len}
use Rattle.std.proofs.lemmas.Grind.{same_number_lists}
use Rattle.std.specs.Prelude.{bit_xor}
use Rattle.std.specs.Int.Bits.{xor_zero_r}
use Rattle.nc_bytes.specs.Bytes.{AreBytes}
use Rattle.nc_gf256.specs.Field.{mul, total}
use Rattle.nc_gf256.specs.Width.{native_count}
use Rattle.nc_gf256.proofs.Sums.{total_suc, total_same}
use Rattle.nc_native.specs.Native.{natives_of, native_len, chunk_size, combination}
use Rattle.nc_native.proofs.Pieces.{natives_count, native_bytes, length-combination}
use Rattle.nc_code.specs.Parts.{CodeParts, PlanParts, IsCode, IsPlan}
use Rattle.nc_code.specs.Codes.{code_row, repaired_row, repaired}
use Rattle.nc_code.proofs.RepairLemmas.{repaired_width}
use Rattle.nc_code.proofs.RepairDots.{AreFactors, chosen, coef, product_term, new_row_product, lost_row}
use Rattle.nc_mix.specs.declared.pieces.Pair.{Pair}
use Rattle.nc_mix.specs.Mixing.{mixed_byte, mixed}
use Rattle.nc_mix.specs.Regenerating.{survivor, factor_at, factors, regenerated, IsRegenerated, AreChosenOf, RepairsFile}
use Rattle.nc_mix.proofs.Mixes.{length-mixed, mixed_natives}
use Rattle.nc_mix.proofs.FileBack.{mixed_at}

survivor_below : (lost k : ℕ) → k < lost → survivor lost k ≡ k
survivor_below lost k h = grind (arith, nat_tests)

survivor_past : (lost k : ℕ) → lost ≤ k → survivor lost k ≡ suc k
survivor_past lost k h = grind (arith, nat_tests)

survivor_other : (lost k : ℕ) → survivor lost k ≢ lost
survivor_other lost k e = elim (cases_lt k lost) [
  | inl h ↦ let is : survivor lost k ≡ k = survivor_below lost k h in omega arith
  | inr h ↦ let is : survivor lost k ≡ suc k = survivor_past lost k h in omega arith
]

-- a sum whose last term is that of the lost cloud, which is 0
last_survivors : (lost n : ℕ) (f : ℕ → ℕ) → n ≡ lost → f lost ≡ 0 → total (suc n) f ≡ total n (λ k. f (survivor lost k))
last_survivors lost n f e none =
    total_suc n f
    ∙ ap (bit_xor (total n f)) (ap f e ∙ none)
    ∙ xor_zero_r (total n f)
    ∙ total_same n f (λ k. f (survivor lost k)) (λ k h. ap f (sym (survivor_below lost k (omega arith))))

-- a sum whose term at the lost cloud is 0 is the sum over the survivors
total_survivors : (lost n : ℕ) (f : ℕ → ℕ) → lost ≤ n → f lost ≡ 0 → total (suc n) f ≡ total n (λ k. f (survivor lost k))
total_survivors lost zero f within none = last_survivors lost zero f (omega arith) none
total_survivors lost (suc n) f within none = elim (cases_lt lost (suc n)) [
  | inr last ↦ last_survivors lost (suc n) f (omega arith) none
  | inl below ↦
      let rest : ℕ = total n (λ k. f (survivor lost k)) in
      total_suc (suc n) f
      ∙ ap (λ x. bit_xor x (f (suc n))) (total_survivors lost n f (omega arith) none)
      ∙ ap (λ k. bit_xor rest (f k)) (sym (survivor_past lost n (omega arith)))
      ∙ sym (total_suc n (λ k. f (survivor lost k)))
]

-- what the lost cloud and the survivors add to a new row's product
lost_term : (lost : ℕ) (plan : PlanParts) (r : ℕ) (value : ℕ → ℕ) → product_term lost plan r value lost ≡ 0
lost_term lost plan r value = grind (arith, nat_tests)

survivor_term : (lost : ℕ) (plan : PlanParts) (r : ℕ) (value : ℕ → ℕ) (t : ℕ) → t ≢ lost → product_term lost plan r value t ≡ mul (coef plan r t) (value t)
survivor_term lost plan r value t other = grind (arith, nat_tests)

-- byte p of each native
abbrev natives_byte : List ℕ → ℕ → ℕ → ℕ → ℕ
natives_byte v n p i = get_or (get_or (natives_of v n) i []) p 0

combination_byte : (v row : List ℕ) (n p : ℕ) → p < chunk_size (length v) n → get_or (combination row v n) p 0 ≡ total (native_count n) (λ i. mul (get_or row i 0) (natives_byte v n p i))
combination_byte v row n p h =
    ap (λ xs. get_or xs p 0) (sym (mixed_natives v row n))
    ∙ mixed_at (chunk_size (length v) n) row (natives_of v n) p h
    ∙ ap (λ k. total k (λ i. mul (get_or row i 0) (natives_byte v n p i))) (natives_count v n)

-- chosen chunks of a file, one of each survivor
record AreFetched (code : CodeParts) (plan : PlanParts) (lost : ℕ) (v : List ℕ) (fetched : List (List ℕ)) : Type 0 where
  is_code : IsCode code
  is_plan : IsPlan plan
  within : lost < code.width
  count : length fetched + 1 ≡ code.width
  bytes : AreBytes v
  are : AreChosenOf code plan lost v fetched

module _ (code : CodeParts) (plan : PlanParts) (lost : ℕ) (v : List ℕ) (fetched : List (List ℕ)) (s : AreFetched code plan lost v fetched) where
  abbrev n : ℕ
  n = code.width

  abbrev size : ℕ
  size = chunk_size (length v) n

  -- byte p of the chunk that the plan takes from cloud t
  abbrev value : ℕ → ℕ → ℕ
  value p t = total (native_count n) (λ i. mul (chosen code plan t i) (natives_byte v n p i))

  fetched_len : native_len fetched ≡ size
  fetched_len =
      let wide : 4 ≤ n = s.is_code.wide in
      ap length (s.are.each 0 (omega arith)) ∙ length-combination (code_row code (survivor lost 0) (get_or plan.choice (survivor lost 0) 0)) v n

  fetched_byte : (k p : ℕ) → k < length fetched → p < size → get_or (get_or fetched k []) p 0 ≡ value p (survivor lost k)
  fetched_byte k p h below =
      let count : length fetched + 1 ≡ n = s.count in
      let t : ℕ = survivor lost k in
      ap (λ xs. get_or xs p 0) (s.are.each k (omega arith))
      ∙ combination_byte v (code_row code t (get_or plan.choice t 0)) n p below

  -- what the survivor at position k adds to byte p of the new chunk r
  factor_term : (r k p : ℕ) → k < length fetched → p < size → mul (get_or (factors plan lost r) k 0) (get_or (get_or fetched k []) p 0) ≡ product_term lost plan r (value p) (survivor lost k)
  factor_term r k p h below =
      let count : length fetched + 1 ≡ n = s.count in
      let narrow : n ≤ 10 = s.is_code.narrow in
      ap (λ f. mul f (get_or (get_or fetched k []) p 0)) (get_or-map-range_with_len (factor_at plan lost r) 0 16 k k 0 (omega arith) (omega arith))
      ∙ ap (mul (coef plan r (survivor lost k))) (fetched_byte k p h below)
      ∙ sym (survivor_term lost plan r (value p) (survivor lost k) (survivor_other lost k))

  new_byte : (r p : ℕ) → p < size → mixed_byte (length fetched) (factors plan lost r) fetched p ≡ total (native_count n) (λ i. mul (get_or (repaired_row code lost plan r) i 0) (natives_byte v n p i))
  new_byte r p below =
      let count : length fetched + 1 ≡ n = s.count in
      let within : lost < n = s.within in
      let narrow : n ≤ 10 = s.is_code.narrow in
      let all : suc (length fetched) ≡ n = omega arith in
      let factors_are : AreFactors code plan = record { rows = s.is_code.shape.bytes; coefs = s.is_plan.shape.bytes } in
      total_same (length fetched) _ _ (λ k h. factor_term r k p h below)
      ∙ sym (total_survivors lost (length fetched) (product_term lost plan r (value p)) (omega arith) (lost_term lost plan r (value p)))
      ∙ ap (λ k. total k (product_term lost plan r (value p))) all
      ∙ sym (new_row_product code lost plan r (native_count n) (natives_byte v n p) (omega arith) factors_are (λ i. native_bytes v n i s.bytes p))

  -- the new chunk is the combination by the new row
  new_chunk : (r : ℕ) → regenerated plan lost fetched r ≡ combination (repaired_row code lost plan r) v n
  new_chunk r =
      let long : length (regenerated plan lost fetched r) ≡ size = length-mixed (native_len fetched) (factors plan lost r) fetched ∙ fetched_len in
      same_number_lists _ _ (long ∙ sym (length-combination (repaired_row code lost plan r) v n)) (λ p inside.
      let below : p < size = subst (λ w. p < w) long inside in
      mixed_at (native_len fetched) (factors plan lost r) fetched p (subst (λ w. p < w) (sym fetched_len) below)
      ∙ new_byte r p below
      ∙ sym (combination_byte v (repaired_row code lost plan r) n p below))

  -- it is the chunk of the repaired code
  repaired_chunk : (r : ℕ) → r < 2 → regenerated plan lost fetched r ≡ combination (code_row (repaired code lost plan) lost r) v (repaired code lost plan).width
  repaired_chunk r pair =
      let within : lost < n = s.within in
      let narrow : n ≤ 10 = s.is_code.narrow in
      let rows : length code.rows ≡ 20 = s.is_code.shape.count in
      new_chunk r
      ∙ ap (λ row. combination row v n) (sym (lost_row code lost plan r (omega arith) pair))
      ∙ ap (combination (code_row (repaired code lost plan) lost r) v) (sym (repaired_width code lost plan))

-- a mix of what was fetched by the factors
pub made_chunk : (plan : PlanParts) (lost r size : ℕ) (fetched sources : List (List ℕ)) (row chunk : List ℕ) → sources ≡ fetched → size ≡ native_len fetched → row ≡ factors plan lost r → chunk ≡ mixed size row sources →
    chunk ≡ regenerated plan lost fetched r
made_chunk plan lost r size fetched sources row chunk same long is made =
    made ∙ ap (mixed size row) same ∙ ap (λ k. mixed k row fetched) long ∙ ap (λ xs. mixed (native_len fetched) xs fetched) is

-- the chunks made of a file's are the file's
pub repairs_file : (plan : PlanParts) (lost n : ℕ) (fetched : List (List ℕ)) (pair : Pair) → IsPlan plan → lost < n → length fetched + 1 ≡ n → IsRegenerated plan lost fetched pair → RepairsFile plan lost n fetched pair
repairs_file plan lost n fetched pair is_plan within count made = record {
  each = λ code v is_code wide bytes are.
      let s : AreFetched code plan lost v fetched = record {
        is_code = is_code;
        is_plan = is_plan;
        within = subst (λ w. lost < w) (sym wide) within;
        count = count ∙ sym wide;
        bytes = bytes;
        are = are;
      } in
      record {
        zero = made.zero ∙ repaired_chunk code plan lost v fetched s 0 (omega arith);
        one = made.one ∙ repaired_chunk code plan lost v fetched s 1 (omega arith);
      };
}
