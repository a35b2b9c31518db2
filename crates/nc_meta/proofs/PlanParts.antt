-- Plans as they are read.
use Rattle.std.proofs.Common.{arith, refl, sym, ap, ap₂, subst, inl, inr, zero-add, ◌∙◌, append_assoc, length-append}
use Rattle.std.proofs.lemmas.Bool.{cases_lt}
use Rattle.std.proofs.lemmas.List.{append-nil, drop-replicate, get_or-replicate, get_or_past, get_or-set_other, get_or-set_same, length-drop, length-set, length-take-le, take_all, take-replicate}
use Rattle.std.specs.Prelude.{ℕ, ◌≡◌, ◌+◌, ◌-◌, ◌*◌, ◌<◌, ◌≤◌, zero, suc, List, [], ◌∷◌, ◌++◌, length, replicate, slice_index, slice_index_or, slice_set, take, drop}
use Rattle.nc_bytes.specs.Bytes.{part}
use Rattle.nc_bytes.proofs.Places.{joins, length-part}
use Rattle.nc_code.specs.Parts.{PlanParts, IsPlan}
use Rattle.nc_code.specs.Codes.{no_plan}
use Rattle.nc_code.specs.Good.{plan_of}
use Rattle.nc_code.specs.declared.plan.Witnesses.{Witnesses}
use Rattle.nc_meta.specs.Parts.{each, of_survivors, spread}
use Rattle.nc_meta.specs.Metas.{AreWitnesses, SpellsPlan, SpellsPlans, plan_bytes}
use Rattle.nc_meta.proofs.Each.{each_at, each_parts, each_same, length-each}
use Rattle.nc_meta.proofs.Padding.{of_spread, spread_lost, spread_past, length-gap}

-- what stands around the lost cloud's zero
pub spread_written : (lost : ℕ) (bytes before one after rest : List ℕ) → lost ≤ length bytes → length bytes < 10
    → before ≡ take lost bytes → one ≡ take 1 (replicate (10 - lost) 0) → after ≡ drop lost bytes
    → rest ≡ drop (length after) (drop 1 (replicate (10 - lost) 0)) → before ++ (one ++ (after ++ rest)) ≡ spread lost bytes
spread_written lost bytes before one after rest within short b o a r =
    let zero_is : one ≡ 0 ∷ [] = o ∙ take-replicate 1 (10 - lost) 0 (omega arith) in
    let left : rest ≡ replicate (10 - lost - 1 - length after) 0 =
    r ∙ ap (drop (length after)) (drop-replicate 1 (10 - lost) 0) ∙ drop-replicate (length after) (10 - lost - 1) 0 in
    let count : 10 - lost - 1 - length after ≡ 10 - length (take lost bytes ++ (0 ∷ drop lost bytes)) =
    omega (arith, length-gap lost bytes within, ap length a, length-drop lost bytes) in
    let zeros = left ∙ ap (λ n. replicate n 0) count in
    let tail = ap₂ (λ (l m : List ℕ). l ++ m) zero_is (ap₂ (λ (l m : List ℕ). l ++ m) a zeros) in
    ap₂ (λ (l m : List ℕ). l ++ m) b tail
    ∙ sym (append_assoc (take lost bytes) (0 ∷ drop lost bytes) (replicate (10 - length (take lost bytes ++ (0 ∷ drop lost bytes))) 0))

zero_in_rows : (a b : List ℕ) (t : ℕ) → slice_index a t ≡ 0 → slice_index b t ≡ 0 → (r : ℕ) → slice_index (slice_index_or (a ∷ b ∷ []) r []) t ≡ 0
zero_in_rows a b t x y zero = x
zero_in_rows a b t x y (suc zero) = y
zero_in_rows a b t x y (suc (suc r)) = refl

-- the three parts of a plan's bytes, spread over the clouds
abbrev pub plan_read : ℕ → ℕ → List ℕ → PlanParts
plan_read n lost bytes = record {
  choice = spread lost (part 0 (n - 1) bytes);
  coefs = spread lost (part (n - 1) (n - 1) bytes) ∷ spread lost (part (n - 1 + (n - 1)) (n - 1) bytes) ∷ [];
}

pub spells_read : (n lost : ℕ) (bytes : List ℕ) → lost < n → length bytes ≡ 3 * (n - 1) → IsPlan (plan_read n lost bytes)
    → SpellsPlan n lost bytes (plan_read n lost bytes)
spells_read n lost bytes within long is =
    let size_0 : length (part 0 (n - 1) bytes) ≡ n - 1 = length-part 0 (n - 1) bytes (omega arith) in
    let size_1 : length (part (n - 1) (n - 1) bytes) ≡ n - 1 = length-part (n - 1) (n - 1) bytes (omega arith) in
    let size_2 : length (part (n - 1 + (n - 1)) (n - 1) bytes) ≡ n - 1 = length-part (n - 1 + (n - 1)) (n - 1) bytes (omega arith) in
    let room : length (drop (n - 1 + (n - 1)) bytes) ≤ n - 1 = omega (arith, length-drop (n - 1 + (n - 1)) bytes) in
    let two = sym (take_all (n - 1) (drop (n - 1 + (n - 1)) bytes) room) in
    let one = joins (n - 1) (n - 1) bytes _ _ refl two in
    let at : 0 + (n - 1) ≡ n - 1 = omega arith in
    let flat = joins 0 (n - 1) bytes _ _ refl (ap (λ k. drop k bytes) at ∙ one) in
    let choice = of_spread n lost (part 0 (n - 1) bytes) within (omega arith) in
    let first = of_spread n lost (part (n - 1) (n - 1) bytes) within (omega arith) in
    let second = of_spread n lost (part (n - 1 + (n - 1)) (n - 1) bytes) within (omega arith) in
    record {
      plan = is;
      bare = record {
        choice = spread_lost lost (part 0 (n - 1) bytes) (omega arith);
        choice_past = λ t past. spread_past lost (part 0 (n - 1) bytes) t (omega arith) (omega arith);
        coefs = zero_in_rows (spread lost (part (n - 1) (n - 1) bytes)) (spread lost (part (n - 1 + (n - 1)) (n - 1) bytes)) lost (spread_lost lost (part (n - 1) (n - 1) bytes) (omega arith))
            (spread_lost lost (part (n - 1 + (n - 1)) (n - 1) bytes) (omega arith));
        coefs_past = λ r t past. zero_in_rows (spread lost (part (n - 1) (n - 1) bytes)) (spread lost (part (n - 1 + (n - 1)) (n - 1) bytes)) t (spread_past lost (part (n - 1) (n - 1) bytes) t (omega arith) (omega arith))
            (spread_past lost (part (n - 1 + (n - 1)) (n - 1) bytes) t (omega arith) (omega arith)) r;
      };
      is_spelling = flat ∙ sym (ap₂ (λ (l m : List ℕ). l ++ m) choice (ap₂ (λ (l m : List ℕ). l ++ m) first second));
    }

-- ---- lengths

pub length-of_survivors : (n lost : ℕ) (xs : List ℕ) → lost < n → n ≤ length xs → length (of_survivors n lost xs) ≡ n - 1
length-of_survivors n lost xs within fits =
    let before : length (take lost xs) ≡ lost = length-take-le lost xs (omega arith) in
    let after : length (part (lost + 1) (n - (lost + 1)) xs) ≡ n - (lost + 1) = length-part (lost + 1) (n - (lost + 1)) xs (omega arith) in
    omega (arith, length-append (take lost xs) (part (lost + 1) (n - (lost + 1)) xs))

pub length-plan_bytes : (n lost : ℕ) (p : PlanParts) → n ≤ 10 → lost < n → IsPlan p → length (plan_bytes n lost p) ≡ 3 * (n - 1)
length-plan_bytes n lost p narrow within is =
    let choice = length-of_survivors n lost p.choice within (omega (arith, is.choice_count)) in
    let first = length-of_survivors n lost (slice_index_or p.coefs 0 []) within (omega (arith, is.shape.widths 0 (omega arith))) in
    let second = length-of_survivors n lost (slice_index_or p.coefs 1 []) within (omega (arith, is.shape.widths 1 (omega arith))) in
    let outer = length-append (of_survivors n lost p.choice) (of_survivors n lost (slice_index_or p.coefs 0 []) ++ of_survivors n lost (slice_index_or p.coefs 1 [])) in
    let inner = length-append (of_survivors n lost (slice_index_or p.coefs 0 [])) (of_survivors n lost (slice_index_or p.coefs 1 [])) in
    omega (arith, choice, first, second, outer, inner)

-- ---- a plan for each loss

-- the first k plans are read
pub record ReadPlans (n size k : ℕ) (bytes : List ℕ) (plans : List PlanParts) : Type 0 where
  pub count : length plans ≡ 10
  pub done : (j : ℕ) → j < k → SpellsPlan n j (part (j * size) size bytes) (slice_index_or plans j no_plan)
  pub rest : (j : ℕ) → k ≤ j → slice_index_or plans j no_plan ≡ no_plan

pub plans_none : (n size : ℕ) (bytes : List ℕ) → ReadPlans n size 0 bytes (replicate 10 no_plan)
plans_none n size bytes = record {
  count = refl;
  done = λ j l. absurd (omega arith);
  rest = λ j l. elim (cases_lt j 10) [
    | inl low ↦ get_or-replicate 10 j no_plan no_plan low
    | inr high ↦ get_or_past (replicate 10 no_plan) j no_plan high
  ];
}

pub plans_more : (n size k : ℕ) (bytes : List ℕ) (plans : List PlanParts) (p : PlanParts) → k < 10 → ReadPlans n size k bytes plans
    → SpellsPlan n k (part (k * size) size bytes) p → ReadPlans n size (k + 1) bytes (slice_set plans k p)
plans_more n size k bytes plans p room read here = record {
  count = length-set plans k p ∙ read.count;
  done = λ j l. elim (cases_lt j k) [
    | inl low ↦
        let e = get_or-set_other plans k j p no_plan (λ (h : j ≡ k). absurd (omega arith)) in
        let P : PlanParts → Type 0 = SpellsPlan n j (part (j * size) size bytes) in
        subst P (sym e) (read.done j low)
    | inr high ↦
        let same : k ≡ j = omega arith in
        let e = get_or-set_same plans k p no_plan (omega (arith, read.count)) in
        let P : ℕ → Type 0 = λ i. SpellsPlan n i (part (i * size) size bytes) (slice_index_or (slice_set plans k p) i no_plan) in
        let Q : PlanParts → Type 0 = SpellsPlan n k (part (k * size) size bytes) in
        subst P same (subst Q (sym e) here)
  ];
  rest = λ j l. get_or-set_other plans k j p no_plan (λ (h : j ≡ k). absurd (omega arith)) ∙ read.rest j (omega arith);
}

pub plans_all : (n size : ℕ) (bytes : List ℕ) (plans : List PlanParts) → length bytes ≡ n * size → ReadPlans n size n bytes plans
    → SpellsPlans n bytes (record { plans = plans })
plans_all n size bytes plans long read =
    let w : Witnesses = record { plans = plans } in
    let whole = sym (take_all (n * size) bytes (omega arith)) in
    let parts = sym (each_parts n 0 size bytes) in
    let at = each_same n (λ i. part (0 + i * size) size bytes) (λ i. plan_bytes n i (plan_of w i))
    (λ i l. ap (λ k. part k size bytes) (zero-add (i * size)) ∙ (read.done i l).is_spelling) in
    record {
      fits = record {
        count = read.count;
        plans = λ lost l. (read.done lost l).plan;
        bare = λ lost l. (read.done lost l).bare;
        past = read.rest;
      };
      is_spelling = whole ∙ parts ∙ at;
    }

pub length-plans : (n : ℕ) (w : Witnesses) → n ≤ 10 → AreWitnesses n w
    → length (each n (λ lost. plan_bytes n lost (plan_of w lost))) ≡ n * (3 * (n - 1))
length-plans n w narrow fits =
    length-each n (3 * (n - 1)) (λ lost. plan_bytes n lost (plan_of w lost)) (λ lost l. length-plan_bytes n lost (plan_of w lost) narrow l (fits.plans lost l))

-- the bytes of each plan
pub plan_at : (n : ℕ) (bytes : List ℕ) (w : Witnesses) → n ≤ 10 → SpellsPlans n bytes w → (lost : ℕ) → lost < n
    → SpellsPlan n lost (part (lost * (3 * (n - 1))) (3 * (n - 1)) bytes) (plan_of w lost)
plan_at n bytes w narrow s lost l =
    let f : ℕ → List ℕ = λ i. plan_bytes n i (plan_of w i) in
    let flat : bytes ≡ each n f ++ [] = s.is_spelling ∙ sym (append-nil (each n f)) in
    let sizes : (i : ℕ) → i < n → length (f i) ≡ 3 * (n - 1) = λ i h. length-plan_bytes n i (plan_of w i) narrow h (s.fits.plans i h) in
    let here = each_at n 0 (3 * (n - 1)) f bytes [] sizes flat lost l in
    record {
      plan = s.fits.plans lost l;
      bare = s.fits.bare lost l;
      is_spelling = ap (λ k. part k (3 * (n - 1)) bytes) (sym (zero-add (lost * (3 * (n - 1))))) ∙ here;
    }
