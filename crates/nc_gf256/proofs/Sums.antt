-- Sums of terms by index, and what follows for dot products.
use Rattle.std.proofs.Common.{◌≡◌, ◌≢◌, ℕ, zero, suc, ◌+◌, ◌<◌, List, slice_index, refl, sym, ap, ◌∙◌, arith, inl, inr, add-one}
use Rattle.std.proofs.lemmas.Bool.{cases_lt, cases_eq}
use lib.Bits.{bit_xor, xor_self, xor_zero_r, xor_lt, xor_assoc, xor_comm}
use Rattle.nc_bytes.specs.Bytes.{AreBytes}
use Rattle.nc_gf256.specs.Field.{mul, total}
use Rattle.nc_gf256.specs.Rows.{dot}
use Rattle.nc_gf256.proofs.Adding.{xor_swap}
use Rattle.nc_gf256.proofs.FieldLaws.{mul_lt, mul_comm, mul_assoc, one_mul, mul_zero, zero_mul_any, mul-xor_right, mul-xor_left}
use Rattle.nc_gf256.proofs.PowerLemmas.{has_inverse}

-- ---- sums of two

-- two numbers are the same where their sum is 0
pub same_of_xor : (a b : ℕ) → bit_xor a b ≡ 0 → a ≡ b
same_of_xor a b h =
    sym (xor_zero_r a)
    ∙ ap (bit_xor a) (sym (xor_self b))
    ∙ sym (xor_assoc a b b)
    ∙ ap (λ x. bit_xor x b) h

-- adding a number twice changes nothing
pub xor_cancel : (a b : ℕ) → bit_xor a (bit_xor a b) ≡ b
xor_cancel a b = sym (xor_assoc a a b) ∙ ap (λ x. bit_xor x b) (xor_self a)

-- the sum of two bytes is a byte
pub xor_byte : (a b : ℕ) → a < 256 → b < 256 → bit_xor a b < 256
xor_byte a b la lb = xor_lt 8 a b la lb

-- ---- sums of many

pub total_nil : (f : ℕ → ℕ) → total 0 f ≡ 0
unfolding total
total_nil f = refl

pub total_suc : (n : ℕ) (f : ℕ → ℕ) → total (suc n) f ≡ bit_xor (total n f) (f n)
unfolding total
total_suc n f = refl

-- one term more, as a loop counts
pub total_more : (n : ℕ) (f : ℕ → ℕ) → total (n + 1) f ≡ bit_xor (total n f) (f n)
unfolding total
total_more n f = ap (λ k. total k f) (add-one n)

pub total_same : (n : ℕ) (f g : ℕ → ℕ) → ((i : ℕ) → i < n → f i ≡ g i) → total n f ≡ total n g
unfolding total
total_same zero f g h = refl
total_same (suc n) f g h =
    ap (λ x. bit_xor x (f n)) (total_same n f g (λ i lt. h i (omega arith)))
    ∙ ap (bit_xor (total n g)) (h n (omega arith))

-- the sum of bytes is a byte
pub total_lt : (n : ℕ) (f : ℕ → ℕ) → ((i : ℕ) → i < n → f i < 256) → total n f < 256
unfolding total
total_lt zero f h = omega arith
total_lt (suc n) f h = xor_lt 8 (total n f) (f n) (total_lt n f (λ i lt. h i (omega arith))) (h n (omega arith))

-- the sum of sums of two is the sum of the two sums
pub total-xor : (n : ℕ) (f g : ℕ → ℕ) → total n (λ i. bit_xor (f i) (g i)) ≡ bit_xor (total n f) (total n g)
unfolding total
total-xor zero f g = refl
total-xor (suc n) f g =
    ap (λ x. bit_xor x (bit_xor (f n) (g n))) (total-xor n f g)
    ∙ xor_swap (total n f) (total n g) (f n) (g n)

pub total_none : (n : ℕ) (f : ℕ → ℕ) → ((i : ℕ) → i < n → f i ≡ 0) → total n f ≡ 0
unfolding total
total_none zero f h = refl
total_none (suc n) f h =
    ap (λ x. bit_xor x (f n)) (total_none n f (λ i lt. h i (omega arith))) ∙ h n (omega arith)

-- two sums may be taken in either order
pub total_swap : (n m : ℕ) (f : ℕ → ℕ → ℕ) → total n (λ i. total m (λ j. f i j)) ≡ total m (λ j. total n (λ i. f i j))
unfolding total
total_swap zero m f = sym (total_none m (λ j. 0) (λ _ _. refl))
total_swap (suc n) m f =
    ap (λ x. bit_xor x (total m (f n))) (total_swap n m f)
    ∙ sym (total-xor m (λ j. total n (λ i. f i j)) (f n))

-- a factor goes into a sum of any numbers on its right
pub mul-total_right : (a n : ℕ) (f : ℕ → ℕ) → mul a (total n f) ≡ total n (λ i. mul a (f i))
unfolding total
mul-total_right a zero f = mul_zero a
mul-total_right a (suc n) f =
    mul-xor_right a (total n f) (f n) ∙ ap (λ x. bit_xor x (mul a (f n))) (mul-total_right a n f)

-- and into a sum of bytes on its left
pub mul-total_left : (n : ℕ) (f : ℕ → ℕ) (b : ℕ) → ((i : ℕ) → i < n → f i < 256) → mul (total n f) b ≡ total n (λ i. mul (f i) b)
unfolding total
mul-total_left zero f b h = zero_mul_any b
mul-total_left (suc n) f b h =
    mul-xor_left (total n f) (f n) b (total_lt n f (λ i lt. h i (omega arith))) (h n (omega arith))
    ∙ ap (λ x. bit_xor x (mul (f n) b)) (mul-total_left n f b (λ i lt. h i (omega arith)))

-- the first n terms, and the m after them
pub total_split : (n m : ℕ) (f : ℕ → ℕ) → total (n + m) f ≡ bit_xor (total n f) (total m (λ i. f (n + i)))
unfolding total
total_split n zero f =
    let e : n + 0 ≡ n = omega arith in
    ap (λ k. total k f) e ∙ sym (xor_zero_r (total n f))
total_split n (suc m) f =
    let e : n + suc m ≡ suc (n + m) = omega arith in
    ap (λ k. total k f) e
    ∙ ap (λ x. bit_xor x (f (n + m))) (total_split n m f)
    ∙ xor_assoc (total n f) (total m (λ i. f (n + i))) (f (n + m))

-- ---- sums where all terms but a few are 0

pub total_one : (n : ℕ) (f : ℕ → ℕ) (i : ℕ) → i < n → ((k : ℕ) → k < n → k ≢ i → f k ≡ 0) → total n f ≡ f i
unfolding total
total_one zero f i li h = absurd (omega arith)
total_one (suc n) f i li h = elim (cases_lt i n) [
  | inl below ↦
      ap (λ x. bit_xor x (f n)) (total_one n f i below (λ k lk. h k (omega arith)))
      ∙ ap (bit_xor (f i)) (h n (omega arith) (λ same. absurd (omega arith)))
      ∙ xor_zero_r (f i)
  | inr here ↦
      let e : n ≡ i = omega arith in
      ap (λ x. bit_xor x (f n)) (total_none n f (λ k lk. h k (omega arith) (λ same. absurd (omega arith))))
      ∙ ap f e
]

pub total_two : (n : ℕ) (f : ℕ → ℕ) (i j : ℕ) → i < n → j < n → i ≢ j → ((k : ℕ) → k < n → k ≢ i → k ≢ j → f k ≡ 0) → total n f ≡ bit_xor (f i) (f j)
unfolding total
total_two zero f i j li lj ne h = absurd (omega arith)
total_two (suc n) f i j li lj ne h = elim (cases_eq j n) [
  | inl e ↦
      ap (λ x. bit_xor x (f n)) (total_one n f i (omega arith) (λ k lk ni. h k (omega arith) ni (λ same. absurd (omega arith))))
      ∙ ap (λ k. bit_xor (f i) (f k)) (sym e)
  | inr nj ↦ elim (cases_eq i n) [
    | inl e ↦
        ap (λ x. bit_xor x (f n)) (total_one n f j (omega arith) (λ k lk nk. h k (omega arith) (λ same. absurd (omega arith)) nk))
        ∙ ap (λ k. bit_xor (f j) (f k)) (sym e)
        ∙ xor_comm (f j) (f i)
    | inr ni ↦
        ap (λ x. bit_xor x (f n)) (total_two n f i j (omega arith) (omega arith) ne (λ k lk. h k (omega arith)))
        ∙ ap (bit_xor (bit_xor (f i) (f j))) (h n (omega arith) (λ same. ni (sym same)) (λ same. nj (sym same)))
        ∙ xor_zero_r (bit_xor (f i) (f j))
  ]
]

-- (a + b) + c = (a + c) + b
xor_last : (a b c : ℕ) → bit_xor (bit_xor a b) c ≡ bit_xor (bit_xor a c) b
xor_last a b c = xor_assoc a b c ∙ ap (bit_xor a) (xor_comm b c) ∙ sym (xor_assoc a c b)

pub total_three : (n : ℕ) (f : ℕ → ℕ) (i j l : ℕ) → i < n → j < n → l < n → i ≢ j → i ≢ l → j ≢ l → ((k : ℕ) → k < n → k ≢ i → k ≢ j → k ≢ l → f k ≡ 0) → total n f ≡ bit_xor (bit_xor (f i) (f j)) (f l)
unfolding total
total_three zero f i j l li lj ll nij nil njl h = absurd (omega arith)
total_three (suc n) f i j l li lj ll nij nil njl h = elim (cases_eq l n) [
  | inl e ↦
      ap (λ x. bit_xor x (f n)) (total_two n f i j (omega arith) (omega arith) nij (λ k lk ni nj. h k (omega arith) ni nj (λ same. absurd (omega arith))))
      ∙ ap (λ k. bit_xor (bit_xor (f i) (f j)) (f k)) (sym e)
  | inr nl ↦ elim (cases_eq j n) [
    | inl e ↦
        ap (λ x. bit_xor x (f n)) (total_two n f i l (omega arith) (omega arith) nil (λ k lk ni nk. h k (omega arith) ni (λ same. absurd (omega arith)) nk))
        ∙ ap (λ k. bit_xor (bit_xor (f i) (f l)) (f k)) (sym e)
        ∙ xor_last (f i) (f l) (f j)
    | inr nj ↦ elim (cases_eq i n) [
      | inl e ↦
          ap (λ x. bit_xor x (f n)) (total_two n f j l (omega arith) (omega arith) njl (λ k lk nk ml. h k (omega arith) (λ same. absurd (omega arith)) nk ml))
          ∙ ap (λ k. bit_xor (bit_xor (f j) (f l)) (f k)) (sym e)
          ∙ xor_last (f j) (f l) (f i)
          ∙ ap (λ x. bit_xor x (f l)) (xor_comm (f j) (f i))
      | inr ni ↦
          ap (λ x. bit_xor x (f n)) (total_three n f i j l (omega arith) (omega arith) (omega arith) nij nil njl (λ k lk. h k (omega arith)))
          ∙ ap (bit_xor (bit_xor (bit_xor (f i) (f j)) (f l))) (h n (omega arith) (λ same. ni (sym same)) (λ same. nj (sym same)) (λ same. nl (sym same)))
          ∙ xor_zero_r (bit_xor (bit_xor (f i) (f j)) (f l))
    ]
  ]
]

-- ---- products

-- a product of bytes is 0 only where a factor is
pub no_divisors : (a b : ℕ) → a < 256 → b < 256 → a ≢ 0 → mul a b ≡ 0 → b ≡ 0
no_divisors a b la lb na h =
    let inverse = has_inverse a la na in
    sym (one_mul b lb)
    ∙ ap (λ x. mul x b) (sym inverse.2)
    ∙ ap (λ x. mul x b) (mul_comm a inverse.0 la inverse.1)
    ∙ mul_assoc inverse.0 a b inverse.1 la lb
    ∙ ap (mul inverse.0) h
    ∙ mul_zero inverse.0

-- a dot product reads only the first k bytes of each list
pub dot_same : (k : ℕ) (row row' v v' : List ℕ) → ((i : ℕ) → i < k → slice_index row i ≡ slice_index row' i) → ((i : ℕ) → i < k → slice_index v i ≡ slice_index v' i) → dot k row v ≡ dot k row' v'
dot_same k row row' v v' hr hv =
    total_same k (λ i. mul (slice_index row i) (slice_index v i)) (λ i. mul (slice_index row' i) (slice_index v' i))
    (λ i lt. ap (λ x. mul x (slice_index v i)) (hr i lt) ∙ ap (mul (slice_index row' i)) (hv i lt))

-- a dot product with a list of bytes is a byte
pub dot_lt : (k : ℕ) (row v : List ℕ) → AreBytes row → dot k row v < 256
dot_lt k row v h = total_lt k (λ i. mul (slice_index row i) (slice_index v i)) (λ i _. mul_lt (slice_index row i) (slice_index v i) (h i))
