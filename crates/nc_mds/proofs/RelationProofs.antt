-- Relations between the rows of all clouds, and what they say of the loss of two clouds.
use Rattle.std.proofs.Common.{◌≡◌, ◌≢◌, ℕ, zero, suc, ◌+◌, ◌-◌, ◌*◌, ◌/◌, ◌%◌, ◌<◌, ◌≤◌, List, slice_index, refl, sym, ap, ◌∙◌, subst, arith, inl, inr}
use Rattle.std.proofs.lemmas.Bool.{cases_eq}
use Rattle.std.proofs.lemmas.Bool.Decides.{nat_tests}
use lib.Bits.{bit_xor, xor_self, xor_assoc}
use Rattle.nc_bytes.specs.Bytes.{AreBytes}
use Rattle.nc_gf256.specs.Field.{mul, total}
use Rattle.nc_gf256.specs.Rows.{Independent, dot}
use Rattle.nc_gf256.specs.Width.{native_count}
use Rattle.nc_gf256.proofs.FieldLaws.{mul_lt, mul_zero, one_mul, mul_assoc, zero_mul_any}
use Rattle.nc_gf256.proofs.Sums.{total_same, total_swap, total_split, total_one, total_two, mul-total_right, mul-total_left, dot_lt}
use Rattle.nc_code.specs.Parts.{CodeParts, IsCode}
use Rattle.nc_code.specs.Codes.{code_row, IsPairMds, IsRowWithout}
use Rattle.nc_matrix.specs.Cells.{row_of, entry}
use Rattle.nc_matrix.specs.Inverted.{IsRowAmong, IsInverse}
use Rattle.nc_matrix.specs.Products.{IsVector, times, product_entry}
use Rattle.nc_gf256.proofs.Units.{unit_same, unit_other}
use Rattle.nc_matrix.specs.declared.square.Square.{Square}
use Rattle.nc_mds.specs.Others.{AreOthers}
use Rattle.nc_mds.specs.Relations.{image, AreRelations, AreSolved, four, IsMinor}
use Rattle.nc_mds.specs.Verdicts.{other_cloud}

-- ---- rows

-- row i of a code is row i % 2 of cloud i / 2
cloud_row : (code : CodeParts) (i : ℕ) → code_row code (i / 2) (i % 2) ≡ row_of code.rows i
cloud_row code i =
    let e : 2 * (i / 2) + i % 2 ≡ i = omega arith in
    ap (λ (k : ℕ). row_of code.rows k) e

image_lt : (code : CodeParts) (v : List ℕ) (i : ℕ) → IsCode code → image code v i < 256
image_lt code v i kept = dot_lt (native_count code.width) (row_of code.rows i) v (kept.shape.bytes i)

other_low : (n i : ℕ) → i < 2 * (n - 2) → other_cloud (n - 2) (n - 1) (i / 2) ≡ i / 2
other_low n i low = grind (arith, nat_tests)

-- the rows of all but the last two clouds are the first ones
first_row : (code : CodeParts) (square : Square) → AreOthers code (code.width - 2) (code.width - 1) square → (i : ℕ) → i < native_count code.width
    → row_of square.cells i ≡ row_of code.rows i
first_row code square are i low =
    are.rows i low
    ∙ ap (λ (c : ℕ). code_row code c (i % 2)) (other_low code.width i low)
    ∙ cloud_row code i

first_image : (code : CodeParts) (square : Square) (v : List ℕ) → AreOthers code (code.width - 2) (code.width - 1) square → (i : ℕ) → i < native_count code.width
    → times (native_count code.width) square.cells i (λ k. slice_index v k) ≡ image code v i
first_image code square v are i low = ap (λ (row : List ℕ). dot (native_count code.width) row v) (first_row code square are i low)

-- row j of the last two clouds
last_row : (code : CodeParts) (j : ℕ) → 4 ≤ code.width → code_row code (code.width - 2 + j / 2) (j % 2) ≡ row_of code.rows (native_count code.width + j)
last_row code j wide =
    let e : 2 * (code.width - 2 + j / 2) + j % 2 ≡ native_count code.width + j = omega arith in
    ap (λ (k : ℕ). row_of code.rows k) e

-- ---- the relations

-- a row's product with a vector, by what a square of which the inverse is known sends the vector to
by_inverse : (n : ℕ) (a b : List (List ℕ)) (row v : List ℕ) (y : ℕ → ℕ) → IsInverse n a b → AreBytes row → AreBytes v → IsVector n y
    → ((i : ℕ) → i < n → times n a i (λ k. slice_index v k) ≡ y i) → dot n row v ≡ total n (λ i. mul (product_entry n row b i) (y i))
by_inverse n a b row v y inverse bytes vector images h =
    total_same n (λ k. mul (slice_index row k) (slice_index v k)) (λ k. total n (λ i. mul (slice_index row k) (mul (entry b k i) (y i))))
    (λ k lk.
    ap (mul (slice_index row k)) (inverse.into (λ k. slice_index v k) y (λ k _. vector k) images h k lk)
    ∙ mul-total_right (slice_index row k) n (λ i. mul (entry b k i) (y i)))
    ∙ total_swap n n (λ k i. mul (slice_index row k) (mul (entry b k i) (y i)))
    ∙ total_same n (λ i. total n (λ k. mul (slice_index row k) (mul (entry b k i) (y i)))) (λ i. mul (product_entry n row b i) (y i))
    (λ i li.
    total_same n (λ k. mul (slice_index row k) (mul (entry b k i) (y i))) (λ k. mul (mul (slice_index row k) (entry b k i)) (y i))
    (λ k lk. sym (mul_assoc (slice_index row k) (entry b k i) (y i) (bytes k) (inverse.bytes k i) (images i li)))
    ∙ sym (mul-total_left n (λ k. mul (slice_index row k) (entry b k i)) (y i) (λ k lk. mul_lt (slice_index row k) (entry b k i) (bytes k))))

relation_sum : (code : CodeParts) (square : Square) (b q : List (List ℕ)) (v : List ℕ) (j : ℕ) → IsCode code → AreOthers code (code.width - 2) (code.width - 1) square
    → IsInverse (native_count code.width) square.cells b → AreSolved code b q → AreBytes v → j < 4
    → total (2 * code.width) (λ i. mul (entry q j i) (image code v i)) ≡ 0
relation_sum code square b q v j kept are inverse solved bytes lj =
    let m = native_count code.width in
    let wide = kept.wide in
    let count : 2 * code.width ≡ m + 4 = omega arith in
    let term = λ (i : ℕ). mul (entry q j i) (image code v i) in
    let row = code_row code (code.width - 2 + j / 2) (j % 2) in
    let is_last : row ≡ row_of code.rows (m + j) = last_row code j wide in
    let left : total m term ≡ image code v (m + j) =
    total_same m term (λ i. mul (product_entry m row b i) (image code v i)) (λ i li. ap (λ x. mul x (image code v i)) (solved.left j i lj li))
    ∙ sym (by_inverse m square.cells b row v (image code v) inverse
    (subst (λ (r : List ℕ). AreBytes r) (sym is_last) (kept.shape.bytes (m + j))) bytes (λ i _. image_lt code v i kept)
    (λ i li. first_image code square v are i li))
    ∙ ap (λ (r : List ℕ). dot m r v) is_last in
    let right : total 4 (λ i. term (m + i)) ≡ image code v (m + j) =
    total_one 4 (λ i. term (m + i)) j lj
    (λ i li ne. ap (λ x. mul x (image code v (m + i))) (solved.right j i lj li ∙ unit_other j i (λ e. ne (sym e))) ∙ zero_mul_any (image code v (m + i)))
    ∙ ap (λ x. mul x (image code v (m + j))) (solved.right j j lj lj ∙ unit_same j)
    ∙ one_mul (image code v (m + j)) (image_lt code v (m + j) kept) in
    ap (λ (k : ℕ). total k term) count
    ∙ total_split m 4 term
    ∙ ap (λ x. bit_xor x (total 4 (λ i. term (m + i)))) left
    ∙ ap (bit_xor (image code v (m + j))) right
    ∙ xor_self (image code v (m + j))

relations_full : (code : CodeParts) (square : Square) → 4 ≤ code.width → AreOthers code (code.width - 2) (code.width - 1) square
    → Independent (native_count code.width) (IsRowAmong (native_count code.width) square.cells) → Independent (native_count code.width) (IsRowAmong (2 * code.width) code.rows)
relations_full code square wide are free = record {
  only_zeros = λ v bytes sent i li. free.only_zeros v bytes (λ row is. sent row (is.0, omega (arith, is.1), is.2 ∙ first_row code square are is.0 is.1)) i li;
}

pub relations_are : (code : CodeParts) (square : Square) (b q : List (List ℕ)) → IsCode code → AreOthers code (code.width - 2) (code.width - 1) square
    → IsInverse square.size square.cells b → AreSolved code b q → AreRelations code q
relations_are code square b q kept are inverse solved =
    let same : IsInverse (native_count code.width) square.cells b = subst (λ (k : ℕ). IsInverse k square.cells b) are.size inverse in
    record {
      sum = λ v bytes j lj. relation_sum code square b q v j kept are same solved bytes lj;
      full = relations_full code square kept.wide are same.independent;
    }

-- ---- the loss of two clouds

-- where all terms but those of two pairs are 0, the sum is that of the four
total_pairs : (n a b : ℕ) (f : ℕ → ℕ) → a < b → b < n → ((k : ℕ) → k < 2 * n → k / 2 ≢ a → k / 2 ≢ b → f k ≡ 0)
    → total (2 * n) f ≡ bit_xor (bit_xor (f (2 * a)) (f (2 * a + 1))) (bit_xor (f (2 * b)) (f (2 * b + 1)))
total_pairs n a b f less within none =
    let count : 2 * n ≡ 2 * b + (2 * n - 2 * b) = omega arith in
    let start : 2 * b + 0 ≡ 2 * b = omega arith in
    ap (λ (k : ℕ). total k f) count
    ∙ total_split (2 * b) (2 * n - 2 * b) f
    ∙ ap (λ x. bit_xor x (total (2 * n - 2 * b) (λ i. f (2 * b + i))))
    (total_two (2 * b) f (2 * a) (2 * a + 1) (omega arith) (omega arith) (omega arith)
    (λ k lk n0 n1. none k (omega arith) (omega arith) (omega arith)))
    ∙ ap (bit_xor (bit_xor (f (2 * a)) (f (2 * a + 1))))
    (total_two (2 * n - 2 * b) (λ i. f (2 * b + i)) 0 1 (omega arith) (omega arith) (omega arith)
    (λ k lk n0 n1. none (2 * b + k) (omega arith) (omega arith) (omega arith))
    ∙ ap (λ (k : ℕ). bit_xor (f k) (f (2 * b + 1))) start)

total_four : (f : ℕ → ℕ) → total 4 f ≡ bit_xor (bit_xor (bit_xor (f 0) (f 1)) (f 2)) (f 3)
unfolding total
total_four f = refl

four_bytes : (f : ℕ → ℕ) (a b : ℕ) → ((k : ℕ) → f k < 256) → AreBytes (four f a b)
four_bytes f a b h zero = h (2 * a)
four_bytes f a b h (suc zero) = h (2 * a + 1)
four_bytes f a b h (suc (suc zero)) = h (2 * b)
four_bytes f a b h (suc (suc (suc zero))) = h (2 * b + 1)
four_bytes f a b h (suc (suc (suc (suc k)))) = omega arith

-- the vector is sent to 0 by the rows of all clouds but a and b
abbrev AreSent : CodeParts → ℕ → ℕ → List ℕ → Type 0
AreSent code a b v = (row : List ℕ) → IsRowWithout code a b row → dot (native_count code.width) row v ≡ 0

other_zero : (code : CodeParts) (a b : ℕ) (v : List ℕ) → AreSent code a b v → (k : ℕ) → k < 2 * code.width → k / 2 ≢ a → k / 2 ≢ b → image code v k ≡ 0
other_zero code a b v sent k lk na nb = sent (row_of code.rows k) (record {
  cloud = k / 2;
  place = k % 2;
  in_width = omega arith;
  in_pair = omega arith;
  not_first = na;
  not_second = nb;
  is_row = sym (cloud_row code k);
})

-- a relation says that the factors of the four other rows give 0
minor_sent : (code : CodeParts) (a b : ℕ) (q : List (List ℕ)) (square : Square) (v : List ℕ) → AreRelations code q → a < b → b < code.width → IsMinor a b q square
    → AreBytes v → AreSent code a b v → (j : ℕ) → j < 4 → dot 4 (row_of square.cells j) (four (image code v) a b) ≡ 0
minor_sent code a b q square v relations less within minor bytes sent j lj =
    let term = λ (i : ℕ). mul (entry q j i) (image code v i) in
    total_same 4 (λ k. mul (entry square.cells j k) (slice_index (four (image code v) a b) k))
    (λ k. mul (slice_index (four (slice_index (row_of q j)) a b) k) (slice_index (four (image code v) a b) k))
    (λ k lk. ap (λ x. mul x (slice_index (four (image code v) a b) k)) (minor.entries j k lj))
    ∙ total_four (λ k. mul (slice_index (four (slice_index (row_of q j)) a b) k) (slice_index (four (image code v) a b) k))
    ∙ xor_assoc (bit_xor (term (2 * a)) (term (2 * a + 1))) (term (2 * b)) (term (2 * b + 1))
    ∙ sym (total_pairs code.width a b term less within (λ k lk na nb. ap (mul (entry q j k)) (other_zero code a b v sent k lk na nb) ∙ mul_zero (entry q j k)))
    ∙ relations.sum v bytes j lj

-- what is 0 at both rows of a cloud
cloud_zero : (f : ℕ → ℕ) (c k : ℕ) → k / 2 ≡ c → f (2 * c) ≡ 0 → f (2 * c + 1) ≡ 0 → f k ≡ 0
cloud_zero f c k here first second = elim (cases_eq (k % 2) 0) [
  | inl even ↦
      let at : k ≡ 2 * c = omega (arith, here, even) in
      ap f at ∙ first
  | inr odd ↦
      let at : k ≡ 2 * c + 1 = omega (arith, here, odd) in
      ap f at ∙ second
]

image_zero : (code : CodeParts) (a b : ℕ) (q : List (List ℕ)) (square : Square) (v : List ℕ) → IsCode code → AreRelations code q → a < b → b < code.width → IsMinor a b q square
    → Independent 4 (IsRowAmong 4 square.cells) → AreBytes v → AreSent code a b v → (k : ℕ) → k < 2 * code.width → image code v k ≡ 0
image_zero code a b q square v kept relations less within minor free bytes sent k lk =
    let y_zero : (c : ℕ) → c < 4 → slice_index (four (image code v) a b) c ≡ 0 =
    free.only_zeros (four (image code v) a b) (four_bytes (image code v) a b (λ i. image_lt code v i kept))
    (λ row is. ap (λ (r : List ℕ). dot 4 r (four (image code v) a b)) is.2 ∙ minor_sent code a b q square v relations less within minor bytes sent is.0 is.1) in
    elim (cases_eq (k / 2) a) [
      | inl first ↦ cloud_zero (image code v) a k first (y_zero 0 (omega arith)) (y_zero 1 (omega arith))
      | inr na ↦ elim (cases_eq (k / 2) b) [
        | inl second ↦ cloud_zero (image code v) b k second (y_zero 2 (omega arith)) (y_zero 3 (omega arith))
        | inr nb ↦ other_zero code a b v sent k lk na nb
      ]
    ]

pub pair_free : (code : CodeParts) (a b : ℕ) (q : List (List ℕ)) (square : Square) → IsCode code → AreRelations code q → a < b → b < code.width → IsMinor a b q square
    → Independent square.size (IsRowAmong square.size square.cells) → IsPairMds code a b
pair_free code a b q square kept relations less within minor free =
    let same : Independent 4 (IsRowAmong 4 square.cells) = subst (λ (k : ℕ). Independent k (IsRowAmong k square.cells)) minor.size free in
    record {
      free = record {
        only_zeros = λ v bytes sent i below.
            relations.full.only_zeros v bytes (λ row is.
            ap (λ (r : List ℕ). dot (native_count code.width) r v) is.2
            ∙ image_zero code a b q square v kept relations less within minor same bytes sent is.0 is.1) i below;
      };
    }
