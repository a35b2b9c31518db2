-- What one step of the elimination keeps: the vectors that the table sends to 0, and the columns that are reduced.
use Rattle.std.proofs.Common.{◌≡◌, ◌≢◌, ℕ, ◌+◌, ◌<◌, List, sym, ap, ◌∙◌, arith, inl, inr}
use Rattle.std.proofs.lemmas.Bool.{cases_lt, cases_eq}
use lib.Bits.{bit_xor, xor_zero_r, xor_self}
use Rattle.nc_gf256.specs.Field.{mul}
use Rattle.nc_gf256.proofs.FieldLaws.{mul_lt, mul_zero, mul_one, one_mul, mul_assoc, mul-xor_left, zero_mul_any}
use Rattle.nc_gf256.proofs.Sums.{total_same, total-xor, total_lt, mul-total_right, no_divisors}
use Rattle.nc_gf256.specs.Rows.{unit}
use Rattle.nc_matrix.specs.Cells.{entry}
use Rattle.nc_matrix.specs.Products.{IsVector, times}
use Rattle.nc_matrix.specs.Elimination.{AreRows, SameSolutions, IsReduced, IsStep, IsSheared, IsScaled, IsPivot, IsNormalized, lifting, clearing}
use Rattle.nc_gf256.proofs.Units.{unit_same, unit_other, unit_lt}
use Rattle.nc_matrix.proofs.TableLemmas.{add_none, lifting_none, lifting_some, clearing_here, clearing_other}

-- ---- the vectors sent to 0

-- a multiple of row j's product is added to that of row i
times_sheared : (n m j : ℕ) (t : ℕ → ℕ) (a b : List (List ℕ)) (z : ℕ → ℕ) → IsSheared n j t a b → AreRows n a → j < n → ((i : ℕ) → i < n → t i < 256) → IsVector m z → (i : ℕ) → i < n → times m b i z ≡ bit_xor (times m a i z) (mul (t i) (times m a j z))
times_sheared n m j t a b z sheared rows lj lt bytes i li =
    total_same m (λ k. mul (entry b i k) (z k)) (λ k. bit_xor (mul (entry a i k) (z k)) (mul (t i) (mul (entry a j k) (z k))))
    (λ k lk.
    ap (λ x. mul x (z k)) (sheared i k li)
    ∙ mul-xor_left (entry a i k) (mul (t i) (entry a j k)) (z k) (rows i k li) (mul_lt (t i) (entry a j k) (lt i li))
    ∙ ap (bit_xor (mul (entry a i k) (z k))) (mul_assoc (t i) (entry a j k) (z k) (lt i li) (rows j k lj) (bytes k lk)))
    ∙ total-xor m (λ k. mul (entry a i k) (z k)) (λ k. mul (t i) (mul (entry a j k) (z k)))
    ∙ ap (bit_xor (times m a i z)) (sym (mul-total_right (t i) m (λ k. mul (entry a j k) (z k))))

pub sheared_same : (n j : ℕ) (t : ℕ → ℕ) (a b : List (List ℕ)) → IsSheared n j t a b → AreRows n a → j < n → ((i : ℕ) → i < n → t i < 256) → t j ≡ 0 → SameSolutions n a b
sheared_same n j t a b sheared rows lj lt none = record {
  forth = λ z bytes solves i li.
      times_sheared n (n + n) j t a b z sheared rows lj lt bytes i li
      ∙ ap (λ x. bit_xor x (mul (t i) (times (n + n) a j z))) (solves i li)
      ∙ ap (mul (t i)) (solves j lj)
      ∙ mul_zero (t i);
  back = λ z bytes solves i li.
      let own : times (n + n) a j z ≡ 0 =
      add_none (t j) (times (n + n) a j z) (times (n + n) a j z) none
      ∙ sym (times_sheared n (n + n) j t a b z sheared rows lj lt bytes j lj)
      ∙ solves j lj in
      sym (xor_zero_r (times (n + n) a i z))
      ∙ ap (bit_xor (times (n + n) a i z)) (sym (ap (mul (t i)) own ∙ mul_zero (t i)))
      ∙ sym (times_sheared n (n + n) j t a b z sheared rows lj lt bytes i li)
      ∙ solves i li;
}

-- row c's product is multiplied too
times_scaled : (n c t m : ℕ) (a b : List (List ℕ)) (z : ℕ → ℕ) → IsScaled n c t a b → AreRows n a → c < n → t < 256 → IsVector m z → times m b c z ≡ mul t (times m a c z)
times_scaled n c t m a b z scaled rows lc lt bytes =
    total_same m (λ k. mul (entry b c k) (z k)) (λ k. mul t (mul (entry a c k) (z k)))
    (λ k lk. ap (λ x. mul x (z k)) (scaled.here k) ∙ mul_assoc t (entry a c k) (z k) lt (rows c k lc) (bytes k lk))
    ∙ sym (mul-total_right t m (λ k. mul (entry a c k) (z k)))

times_kept : (n c t m : ℕ) (a b : List (List ℕ)) (z : ℕ → ℕ) → IsScaled n c t a b → (i : ℕ) → i < n → i ≢ c → times m b i z ≡ times m a i z
times_kept n c t m a b z scaled i li ne =
    total_same m (λ k. mul (entry b i k) (z k)) (λ k. mul (entry a i k) (z k)) (λ k _. ap (λ x. mul x (z k)) (scaled.others i k li ne))

pub scaled_same : (n c t : ℕ) (a b : List (List ℕ)) → IsScaled n c t a b → AreRows n a → c < n → t < 256 → t ≢ 0 → SameSolutions n a b
scaled_same n c t a b scaled rows lc lt some = record {
  forth = λ z bytes solves i li. elim (cases_eq i c) [
    | inl e ↦
        ap (λ i. times (n + n) b i z) e
        ∙ times_scaled n c t (n + n) a b z scaled rows lc lt bytes
        ∙ ap (mul t) (solves c lc)
        ∙ mul_zero t
    | inr ne ↦ times_kept n c t (n + n) a b z scaled i li ne ∙ solves i li
  ];
  back = λ z bytes solves i li. elim (cases_eq i c) [
    | inl e ↦
        ap (λ i. times (n + n) a i z) e
        ∙ no_divisors t (times (n + n) a c z) lt (total_lt (n + n) (λ k. mul (entry a c k) (z k)) (λ k _. mul_lt (entry a c k) (z k) (rows c k lc))) some
        (sym (times_scaled n c t (n + n) a b z scaled rows lc lt bytes) ∙ solves c lc)
    | inr ne ↦ sym (times_kept n c t (n + n) a b z scaled i li ne) ∙ solves i li
  ];
}

pub same_self : (n : ℕ) (a : List (List ℕ)) → SameSolutions n a a
same_self n a = record { forth = λ z bytes solves. solves; back = λ z bytes solves. solves }

pub same_then : (n : ℕ) (a b d : List (List ℕ)) → SameSolutions n a b → SameSolutions n b d → SameSolutions n a d
same_then n a b d first second = record {
  forth = λ z bytes solves. second.forth z bytes (first.forth z bytes solves);
  back = λ z bytes solves. first.back z bytes (second.back z bytes solves);
}

-- ---- the columns that are reduced

-- a multiple of 0 adds nothing
add_zero : (t x y : ℕ) → y ≡ 0 → bit_xor x (mul t y) ≡ x
add_zero t x y e = ap (λ y. bit_xor x (mul t y)) e ∙ ap (bit_xor x) (mul_zero t) ∙ xor_zero_r x

lifted_reduced : (n c p : ℕ) (a b : List (List ℕ)) → IsSheared n p (lifting c p) a b → IsPivot n c a p → IsReduced n c a → IsReduced n c b
lifted_reduced n c p a b sheared pivot reduced i k li lk =
    let from = pivot.from in
    sheared i k li
    ∙ add_zero (lifting c p i) (entry a i k) (entry a p k) (reduced p k pivot.below lk ∙ unit_other p k (λ e. absurd (omega arith)))
    ∙ reduced i k li lk

-- the pivot row itself is not changed
lifting_pivot : (c p : ℕ) → lifting c p p ≡ 0
lifting_pivot c p = elim (cases_eq p c) [
  | inl e ↦ lifting_none c p p e
  | inr ne ↦ lifting_some c p p ne ∙ unit_other c p (λ e. ne (sym e))
]

-- after lifting, row c has a pivot
pub lifted_pivot : (n c p : ℕ) (a b : List (List ℕ)) → IsSheared n p (lifting c p) a b → IsPivot n c a p → AreRows n a → c < n → entry b c c ≢ 0
lifted_pivot n c p a b sheared pivot rows lc zero = elim (cases_eq p c) [
  | inl e ↦
      pivot.found
      (ap (λ i. entry a i c) e
      ∙ add_none (lifting c p c) (entry a c c) (entry a p c) (lifting_none c p c e)
      ∙ sym (sheared c c lc)
      ∙ zero)
  | inr ne ↦
      let from = pivot.from in
      pivot.found
      (sym (one_mul (entry a p c) (rows p c pivot.below))
      ∙ ap (λ t. mul t (entry a p c)) (sym (lifting_some c p c ne ∙ unit_same c))
      ∙ ap (λ x. bit_xor x (mul (lifting c p c) (entry a p c))) (sym (pivot.first c (omega arith) (omega (arith, ne))))
      ∙ sym (sheared c c lc)
      ∙ zero)
]

normal_reduced : (n c : ℕ) (b e : List (List ℕ)) → IsNormalized n c b e → c < n → IsReduced n c b → IsReduced n c e
normal_reduced n c b e normal lc reduced i k li lk = elim (cases_eq i c) [
  | inl same ↦
      ap (λ i. entry e i k) same
      ∙ normal.scaled.here k
      ∙ ap (mul normal.multiple) (reduced c k lc lk ∙ unit_other c k (λ e. absurd (omega arith)))
      ∙ mul_zero normal.multiple
      ∙ sym (unit_other c k (λ e. absurd (omega arith)))
      ∙ ap (λ i. unit i k) (sym same)
  | inr other ↦ normal.scaled.others i k li other ∙ reduced i k li lk
]

cleared_reduced : (n c : ℕ) (e d : List (List ℕ)) → IsSheared n c (clearing c e) e d → AreRows n e → c < n → entry e c c ≡ 1 → IsReduced n c e → IsReduced n (c + 1) d
cleared_reduced n c e d sheared rows lc one reduced i k li lk = elim (cases_lt k c) [
  | inl below ↦
      sheared i k li
      ∙ add_zero (clearing c e i) (entry e i k) (entry e c k) (reduced c k lc below ∙ unit_other c k (λ same. absurd (omega arith)))
      ∙ reduced i k li below
  | inr here ↦
      let at : k ≡ c = omega arith in
      ap (entry d i) at
      ∙ sheared i c li
      ∙ elim (cases_eq i c) [
        | inl same ↦
            sym (add_none (clearing c e i) (entry e i c) (entry e c c) (ap (clearing c e) same ∙ clearing_here c e))
            ∙ ap (λ i. entry e i c) same
            ∙ one
            ∙ sym (unit_same c)
            ∙ ap (λ i. unit i c) (sym same)
            ∙ ap (unit i) (sym at)
        | inr other ↦
            ap (λ t. bit_xor (entry e i c) (mul t (entry e c c))) (clearing_other c e i other)
            ∙ ap (λ y. bit_xor (entry e i c) (mul (entry e i c) y)) one
            ∙ ap (bit_xor (entry e i c)) (mul_one (entry e i c) (rows i c li))
            ∙ xor_self (entry e i c)
            ∙ sym (unit_other i k (λ same. other (same ∙ at)))
      ]
]

-- ---- the step

lifting_lt : (c p i : ℕ) → lifting c p i < 256
lifting_lt c p i = elim (cases_eq p c) [
  | inl e ↦ rw (lifting_none c p i e) (omega arith)
  | inr ne ↦ rw (lifting_some c p i ne) (unit_lt c i)
]

clearing_lt : (n c : ℕ) (rows : List (List ℕ)) → AreRows n rows → (i : ℕ) → i < n → clearing c rows i < 256
clearing_lt n c rows bytes i li = elim (cases_eq i c) [
  | inl e ↦ rw (e, clearing_here c rows) (omega arith)
  | inr ne ↦ rw (clearing_other c rows i ne) (bytes i c li)
]

normal_some : (n c : ℕ) (b e : List (List ℕ)) (normal : IsNormalized n c b e) → normal.multiple ≢ 0
normal_some n c b e normal zero =
    let h : 0 ≡ 1 =
    sym (zero_mul_any (entry b c c))
    ∙ ap (λ t. mul t (entry b c c)) (sym zero)
    ∙ sym (normal.scaled.here c)
    ∙ normal.one in
    omega (arith, h)

pub step_is : (n c p : ℕ) (a b e d : List (List ℕ)) → c < n → AreRows n a → IsReduced n c a → IsPivot n c a p → AreRows n b → IsSheared n p (lifting c p) a b → AreRows n e → IsNormalized n c b e → AreRows n d → IsSheared n c (clearing c e) e d → IsStep n (c + 1) a d
step_is n c p a b e d lc ra reduced pivot rb lift re normal rd clear = record {
  rows = rd;
  same =
      same_then n a b d (sheared_same n p (lifting c p) a b lift ra pivot.below (λ i _. lifting_lt c p i) (lifting_pivot c p))
      (same_then n b e d (scaled_same n c normal.multiple b e normal.scaled rb lc normal.byte (normal_some n c b e normal))
      (sheared_same n c (clearing c e) e d clear re lc (clearing_lt n c e re) (clearing_here c e)));
  reduced = cleared_reduced n c e d clear re lc normal.one (normal_reduced n c b e normal lc (lifted_reduced n c p a b lift pivot reduced));
}
