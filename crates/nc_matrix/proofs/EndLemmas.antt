-- What the elimination shows at its end: the inverse on both sides, or a vector that every row sends to 0.
use Rattle.std.proofs.Common.{◌≡◌, ◌≢◌, ℕ, ◌+◌, ◌-◌, ◌<◌, ◌≤◌, cond, nat_lt, List, slice_index, refl, sym, ap, ◌∙◌, arith, inl, inr, lt-ltb, le-ltb}
use Rattle.std.proofs.lemmas.Bool.{cases_lt, cases_eq, cond-true, cond-false}
use lib.Bits.{bit_xor, xor_zero_r, xor_self}
use Rattle.nc_bytes.specs.Bytes.{AreBytes}
use Rattle.nc_gf256.specs.Field.{mul, total}
use Rattle.nc_gf256.specs.Rows.{Independent, unit}
use Rattle.nc_gf256.proofs.FieldLaws.{mul_zero, mul_one, one_mul, zero_mul_any}
use Rattle.nc_gf256.proofs.Sums.{total_same, total_split, total_none, total_two, same_of_xor}
use Rattle.nc_matrix.specs.Cells.{row_of, entry}
use Rattle.nc_matrix.specs.Products.{IsVector, times}
use Rattle.nc_matrix.specs.Elimination.{AreRows, Solves, IsReduced, IsStep, IsAugmented, IsReadOff}
use Rattle.nc_matrix.specs.Inverted.{IsRowAmong, IsInverse, IsKernel}
use Rattle.nc_gf256.proofs.Units.{unit_same, unit_other, unit_lt, unit_times, times_unit}

-- two vectors of n entries as one of 2n
joined : ℕ → (ℕ → ℕ) → (ℕ → ℕ) → ℕ → ℕ
joined n x y k = cond (nat_lt k n) (x k) (y (k - n))

joined_left : (n : ℕ) (x y : ℕ → ℕ) (k : ℕ) → k < n → joined n x y k ≡ x k
unfolding joined
joined_left n x y k lt = cond-true (nat_lt k n) (x k) (y (k - n)) (lt-ltb k n lt)

joined_right : (n : ℕ) (x y : ℕ → ℕ) (k : ℕ) → joined n x y (n + k) ≡ y k
unfolding joined
joined_right n x y k =
    let rest : n + k - n ≡ k = omega arith in
    cond-false (nat_lt (n + k) n) (x (n + k)) (y (n + k - n)) (le-ltb (n + k) n (omega arith)) ∙ ap y rest

joined_bytes : (n : ℕ) (x y : ℕ → ℕ) → IsVector n x → IsVector n y → IsVector (n + n) (joined n x y)
joined_bytes n x y bx by k lt = elim (cases_lt k n) [
  | inl below ↦ rw (joined_left n x y k below) (bx k below)
  | inr above ↦
      let e : k ≡ n + (k - n) = omega arith in
      let byte : y (k - n) < 256 = by (k - n) (omega arith) in
      omega (arith, ap (joined n x y) e ∙ joined_right n x y (k - n))
]

-- a product reads the first m entries of a vector
times_same : (m : ℕ) (rows : List (List ℕ)) (i : ℕ) (x y : ℕ → ℕ) → ((k : ℕ) → k < m → x k ≡ y k) → times m rows i x ≡ times m rows i y
times_same m rows i x y h = total_same m (λ k. mul (entry rows i k) (x k)) (λ k. mul (entry rows i k) (y k)) (λ k lk. ap (mul (entry rows i k)) (h k lk))

-- ---- the first and the last table

times_first : (n : ℕ) (a wide : List (List ℕ)) (z : ℕ → ℕ) → IsAugmented n a wide → IsVector (n + n) z → (i : ℕ) → i < n → times (n + n) wide i z ≡ bit_xor (times n a i z) (z (n + i))
times_first n a wide z start bytes i li =
    total_split n n (λ k. mul (entry wide i k) (z k))
    ∙ ap (λ x. bit_xor x (total n (λ k. mul (entry wide i (n + k)) (z (n + k)))))
    (total_same n (λ k. mul (entry wide i k) (z k)) (λ k. mul (entry a i k) (z k)) (λ k lk. ap (λ x. mul x (z k)) (start.left i k li lk)))
    ∙ ap (bit_xor (times n a i z))
    (unit_times n i (λ k. entry wide i (n + k)) (λ k. z (n + k)) li (λ k lk. start.right i k li lk) (bytes (n + i) (omega arith)))

times_last : (n : ℕ) (rows : List (List ℕ)) (z : ℕ → ℕ) → IsReduced n n rows → IsVector (n + n) z → (i : ℕ) → i < n → times (n + n) rows i z ≡ bit_xor (z i) (total n (λ k. mul (entry rows i (n + k)) (z (n + k))))
times_last n rows z reduced bytes i li =
    total_split n n (λ k. mul (entry rows i k) (z k))
    ∙ ap (λ x. bit_xor x (total n (λ k. mul (entry rows i (n + k)) (z (n + k)))))
    (unit_times n i (λ k. entry rows i k) z li (λ k lk. reduced i k li lk) (bytes i (omega arith)))

-- b is the right half of the last table
abbrev IsHalf : ℕ → List (List ℕ) → List (List ℕ) → Type 0
IsHalf n rows b = (i k : ℕ) → i < n → k < n → entry b i k ≡ entry rows i (n + k)

right_times : (n : ℕ) (rows b : List (List ℕ)) (x y : ℕ → ℕ) → IsHalf n rows b → (i : ℕ) → i < n → total n (λ k. mul (entry rows i (n + k)) (joined n x y (n + k))) ≡ times n b i y
right_times n rows b x y half i li =
    total_same n (λ k. mul (entry rows i (n + k)) (joined n x y (n + k))) (λ k. mul (entry b i k) (y k))
    (λ k lk. ap (λ e. mul e (joined n x y (n + k))) (sym (half i k li lk)) ∙ ap (mul (entry b i k)) (joined_right n x y k))

left_times : (n : ℕ) (a : List (List ℕ)) (x y : ℕ → ℕ) (i : ℕ) → times n a i (joined n x y) ≡ times n a i x
left_times n a x y i = times_same n a i (joined n x y) x (λ k lk. joined_left n x y k lk)

-- ---- the inverse

into : (n : ℕ) (a wide rows b : List (List ℕ)) → IsAugmented n a wide → IsStep n n wide rows → IsHalf n rows b → (x y : ℕ → ℕ) → IsVector n x → IsVector n y → ((i : ℕ) → i < n → times n a i x ≡ y i) → (i : ℕ) → i < n → x i ≡ times n b i y
into n a wide rows b start end half x y bx by h i li =
    let z = joined n x y in
    let bytes = joined_bytes n x y bx by in
    let first : Solves n wide z = λ j lj.
    times_first n a wide z start bytes j lj
    ∙ ap (λ s. bit_xor s (z (n + j))) (left_times n a x y j ∙ h j lj)
    ∙ ap (bit_xor (y j)) (joined_right n x y j)
    ∙ xor_self (y j) in
    let last : Solves n rows z = end.same.forth z bytes first in
    sym (joined_left n x y i li)
    ∙ same_of_xor (z i) (total n (λ k. mul (entry rows i (n + k)) (z (n + k)))) (sym (times_last n rows z end.reduced bytes i li) ∙ last i li)
    ∙ right_times n rows b x y half i li

out_of : (n : ℕ) (a wide rows b : List (List ℕ)) → IsAugmented n a wide → IsStep n n wide rows → IsHalf n rows b → (x y : ℕ → ℕ) → IsVector n x → IsVector n y → ((i : ℕ) → i < n → x i ≡ times n b i y) → (i : ℕ) → i < n → times n a i x ≡ y i
out_of n a wide rows b start end half x y bx by h i li =
    let z = joined n x y in
    let bytes = joined_bytes n x y bx by in
    let last : Solves n rows z = λ j lj.
    times_last n rows z end.reduced bytes j lj
    ∙ ap (bit_xor (z j)) (right_times n rows b x y half j lj ∙ sym (h j lj))
    ∙ ap (λ s. bit_xor s (x j)) (joined_left n x y j lj)
    ∙ xor_self (x j) in
    let first : Solves n wide z = end.same.back z bytes last in
    sym (left_times n a x y i)
    ∙ same_of_xor (times n a i z) (z (n + i)) (sym (times_first n a wide z start bytes i li) ∙ first i li)
    ∙ joined_right n x y i

-- the entries of the square are bytes where they stand in the first table
square_bytes : (n : ℕ) (a wide : List (List ℕ)) → IsAugmented n a wide → (i k : ℕ) → i < n → k < n → entry a i k < 256
square_bytes n a wide start i k li lk = rw (sym (start.left i k li lk)) (start.rows i k li)

pub inverse_is : (n : ℕ) (a wide rows b : List (List ℕ)) → IsAugmented n a wide → IsStep n n wide rows → IsHalf n rows b → ((i k : ℕ) → entry b i k < 256) → IsInverse n a b
inverse_is n a wide rows b start end half bytes = record {
  right = λ i k li lk.
      out_of n a wide rows b start end half (λ j. entry b j k) (λ j. unit j k) (λ j _. bytes j k) (λ j _. unit_lt j k)
      (λ j lj. sym (times_unit n k (λ l. entry b j l) lk (bytes j k))) i li;
  left = λ i k li lk.
      sym (into n a wide rows b start end half (λ j. unit j k) (λ j. entry a j k) (λ j _. unit_lt j k) (λ j lj. square_bytes n a wide start j k lj lk)
      (λ j lj. times_unit n k (λ l. entry a j l) lk (square_bytes n a wide start j k lj lk)) i li);
  into = into n a wide rows b start end half;
  out_of = out_of n a wide rows b start end half;
  bytes = bytes;
  independent = record {
    only_zeros = λ v byte sent i li.
        into n a wide rows b start end half (λ k. slice_index v k) (λ _. 0) (λ k _. byte k) (λ _ _. omega arith)
        (λ j lj. sent (row_of a j) (j, lj, refl)) i li
        ∙ total_none n (λ k. mul (entry b i k) 0) (λ k _. mul_zero (entry b i k));
  };
}

-- ---- the kernel

read_bytes : (n c : ℕ) (rows : List (List ℕ)) (v : List ℕ) → AreRows n rows → c < n → IsReadOff c rows v → AreBytes v
read_bytes n c rows v bytes lc read k = elim (cases_lt k c) [
  | inl below ↦ rw (read.read k below) (bytes k c (omega arith))
  | inr above ↦ elim (cases_eq k c) [
    | inl e ↦ rw (e, read.one) (omega arith)
    | inr ne ↦ rw (read.zero_past k (omega (arith, ne))) (omega arith)
  ]
]

read_solves : (n c : ℕ) (rows : List (List ℕ)) (v : List ℕ) → AreRows n rows → IsReduced n c rows → c < n → ((i : ℕ) → c ≤ i → i < n → entry rows i c ≡ 0) → IsReadOff c rows v → Solves n rows (λ k. slice_index v k)
read_solves n c rows v bytes reduced lc none read i li =
    let past : (k : ℕ) → c < k → mul (entry rows i k) (slice_index v k) ≡ 0 = λ k lk.
    ap (mul (entry rows i k)) (read.zero_past k lk) ∙ mul_zero (entry rows i k) in
    let low : (k : ℕ) → k < c → k ≢ i → mul (entry rows i k) (slice_index v k) ≡ 0 = λ k lk ne.
    ap (λ x. mul x (slice_index v k)) (reduced i k li lk ∙ unit_other i k (λ e. ne (sym e))) ∙ zero_mul_any (slice_index v k) in
    let here : mul (entry rows i c) (slice_index v c) ≡ entry rows i c =
    ap (mul (entry rows i c)) read.one ∙ mul_one (entry rows i c) (bytes i c li) in
    elim (cases_lt i c) [
      | inl below ↦
          total_two (n + n) (λ k. mul (entry rows i k) (slice_index v k)) i c (omega arith) (omega arith) (λ e. absurd (omega arith))
          (λ k lk ni nc. elim (cases_lt k c) [ inl lo ↦ low k lo ni | inr hi ↦ past k (omega (arith, nc)) ])
          ∙ ap (λ x. bit_xor (mul x (slice_index v i)) (mul (entry rows i c) (slice_index v c))) (reduced i i li below ∙ unit_same i)
          ∙ ap (λ x. bit_xor (mul 1 x) (mul (entry rows i c) (slice_index v c))) (read.read i below)
          ∙ ap (λ x. bit_xor x (mul (entry rows i c) (slice_index v c))) (one_mul (entry rows i c) (bytes i c li))
          ∙ ap (bit_xor (entry rows i c)) here
          ∙ xor_self (entry rows i c)
      | inr above ↦
          total_none (n + n) (λ k. mul (entry rows i k) (slice_index v k))
          (λ k lk. elim (cases_lt k c) [
            | inl lo ↦ low k lo (λ e. absurd (omega arith))
            | inr hi ↦ elim (cases_eq k c) [
              | inl e ↦ ap (λ k. mul (entry rows i k) (slice_index v k)) e ∙ here ∙ none i above li
              | inr ne ↦ past k (omega (arith, ne))
            ]
          ])
    ]

-- a vector that the rows send to 0 shows that they are dependent
pub kernel_dependent : (n : ℕ) (a : List (List ℕ)) (v : List ℕ) (place : ℕ) → place < n → slice_index v place ≢ 0 → AreBytes v → ((i : ℕ) → i < n → times n a i (λ k. slice_index v k) ≡ 0) → Independent n (IsRowAmong n a) → ⊥
kernel_dependent n a v place within some bytes sent independent =
    some (independent.only_zeros v bytes (λ row is. ap (λ r. total n (λ k. mul (slice_index r k) (slice_index v k))) is.2 ∙ sent is.0 is.1) place within)

pub kernel_is : (n c : ℕ) (a wide rows : List (List ℕ)) (v : List ℕ) → IsAugmented n a wide → IsStep n c wide rows → c < n → ((i : ℕ) → c ≤ i → i < n → entry rows i c ≡ 0) → IsReadOff c rows v → IsKernel n a v
kernel_is n c a wide rows v start step lc none read =
    let bytes : AreBytes v = read_bytes n c rows v step.rows lc read in
    let some : slice_index v c ≢ 0 = λ zero. absurd (omega (arith, zero, read.one)) in
    let first : Solves n wide (λ k. slice_index v k) =
    step.same.back (λ k. slice_index v k) (λ k _. bytes k) (read_solves n c rows v step.rows step.reduced lc none read) in
    let sent : (i : ℕ) → i < n → times n a i (λ k. slice_index v k) ≡ 0 = λ i li.
    sym (xor_zero_r (times n a i (λ k. slice_index v k)))
    ∙ ap (bit_xor (times n a i (λ k. slice_index v k))) (sym (read.zero_past (n + i) (omega arith)))
    ∙ sym (times_first n a wide (λ k. slice_index v k) start (λ k _. bytes k) i li)
    ∙ first i li in
    record {
      place = c;
      within = lc;
      not_zero = some;
      zero_past = λ k le. read.zero_past k (omega arith);
      bytes = bytes;
      sent = sent;
      dependent = kernel_dependent n a v c lc some bytes sent;
    }
