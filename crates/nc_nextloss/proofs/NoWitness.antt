-- The striped code has no witness: two survivors give chunks of one stripe, and the vector in the other stripe is sent to 0
-- by all rows but those two clouds'.
use Rattle.std.proofs.Common.{◌≡◌, ◌≢◌, ℕ, ◌+◌, ◌-◌, ◌*◌, ◌/◌, ◌%◌, ◌^◌, ◌<◌, ◌≤◌, List, [], length, get_or, map, slice_index, slice_index_or, sym, ap, ◌∙◌, subst, arith, inl, inr}
use Rattle.std.specs.List.{range_with_len}
use Rattle.std.proofs.lemmas.Bool.{cases_lt, cases_eq}
use Rattle.std.proofs.lemmas.Bool.Decides.{nat_tests}
use Rattle.std.proofs.lemmas.List.FromFn.{get_or-map-range_with_len, length-map-range_with_len}
use Rattle.std.proofs.lemmas.Nat.{pow_below}
use Rattle.nc_bytes.specs.Bytes.{AreBytes}
use Rattle.nc_gf256.specs.Field.{mul}
use Rattle.nc_gf256.specs.Rows.{dot}
use Rattle.nc_gf256.specs.Width.{native_count}
use Rattle.nc_gf256.proofs.FieldLaws.{mul_zero, zero_mul_any}
use Rattle.nc_gf256.proofs.Sums.{total_none, total_same}
use Rattle.nc_code.specs.Parts.{PlanParts, IsPlan}
use Rattle.nc_code.specs.Codes.{code_row, IsPairMds, repaired_row, repaired}
use Rattle.nc_code.specs.Striped.{stripe, striped_entry, striped_row, striped_code}
use Rattle.nc_code.proofs.RepairLemmas.{survivor_row, repaired_width}
use Rattle.nc_code.proofs.FilledRows.{get_or_each}
use Rattle.nc_code.proofs.RepairDots.{lost_row, new_row_zero}
use Rattle.nc_mds.proofs.StripedRows.{along, stripe_on, stripe_off, dot_native, dot_sums, dot_powers}
use Rattle.nc_mds.proofs.StripedMds.{striped_width}
use Rattle.nc_nextloss.specs.Laws.{StripedHasNoWitness}
use Rattle.nc_nextloss.proofs.HiddenVector.{IsHidden, hidden}

-- ---- the entries of the striped code are bytes

entry_byte : (n c s i : ℕ) → i < 16 → striped_entry n c s i < 256
entry_byte n c s i below =
    let power : 2 ^ (i / 2) < 256 = pow_below (i / 2) 8 (omega arith) in
    grind (arith, nat_tests)

row_byte : (n i k : ℕ) → get_or (striped_row n i) k 0 < 256
row_byte n i k =
    get_or_each (λ (x : ℕ). x < 256) (striped_entry n (i / 2) (i % 2)) 16 k 0 (omega arith) (entry_byte n (i / 2) (i % 2) k)

striped_bytes : (n i : ℕ) → AreBytes (slice_index_or (striped_code n).rows i [])
unfolding striped_code
striped_bytes n i k =
    get_or_each (λ (row : List ℕ). slice_index row k < 256) (striped_row n) 20 i [] (omega arith) (λ _. row_byte n i k)

striped_long : (n : ℕ) → length (striped_code n).rows ≡ 20
unfolding striped_code
striped_long n = length-map-range_with_len (striped_row n) 0 20

-- ---- the vector

abbrev vector : ℕ → (ℕ → ℕ) → List ℕ
vector q u = map (stripe q u) (range_with_len 0 16)

vector_at : (q : ℕ) (u : ℕ → ℕ) (i : ℕ) → i < 16 → slice_index (vector q u) i ≡ stripe q u i
vector_at q u i below = get_or-map-range_with_len (stripe q u) 0 16 i i 0 below (omega arith)

stripe_byte : (q : ℕ) (u : ℕ → ℕ) (i : ℕ) → ((k : ℕ) → u k < 256) → stripe q u i < 256
stripe_byte q u i bytes = elim (cases_eq (i % 2) q) [
  | inl e ↦ rw (stripe_on q i u e) (bytes (i / 2))
  | inr ne ↦ rw (stripe_off q i u ne) (omega arith)
]

vector_bytes : (q : ℕ) (u : ℕ → ℕ) → ((k : ℕ) → u k < 256) → AreBytes (vector q u)
vector_bytes q u bytes i =
    get_or_each (λ (x : ℕ). x < 256) (stripe q u) 16 i 0 (omega arith) (λ _. stripe_byte q u i bytes)

-- the vector is 0 in the other stripe
vector_off : (q s c : ℕ) (u : ℕ → ℕ) → s < 2 → c < 8 → s ≢ q → slice_index (vector q u) (2 * c + s) ≡ 0
vector_off q s c u pair low ne =
    let place : (2 * c + s) % 2 ≡ s = omega arith in
    vector_at q u (2 * c + s) (omega arith) ∙ stripe_off q (2 * c + s) u (omega arith)

-- ---- products of the rows of the striped code with it

along_vector : (n q s : ℕ) (w u : ℕ → ℕ) → n ≤ 10 → along n s w (slice_index (vector q u)) ≡ along n s w (stripe q u)
along_vector n q s w u narrow =
    total_same (native_count n) _ _ (λ i below. ap (mul (stripe s w i)) (vector_at q u i (omega arith)))

along_off : (n q s : ℕ) (w u : ℕ → ℕ) → s ≢ q → along n s w (stripe q u) ≡ 0
along_off n q s w u ne =
    total_none (native_count n) _ (λ i _. elim (cases_eq (i % 2) s) [
      | inl e ↦ ap (mul (stripe s w i)) (stripe_off q i u (omega arith)) ∙ mul_zero (stripe s w i)
      | inr other ↦ ap (λ a. mul a (stripe q u i)) (stripe_off s i w other) ∙ zero_mul_any (stripe q u i)
    ])

-- any row of the other stripe sends it to 0
off_stripe : (n q c s : ℕ) (u : ℕ → ℕ) → 4 ≤ n → n ≤ 10 → ((k : ℕ) → u k < 256) → c < n → s < 2 → s ≢ q → dot (native_count n) (code_row (striped_code n) c s) (vector q u) ≡ 0
off_stripe n q c s u wide narrow bytes within pair ne = elim (cases_lt c (n - 2)) [
  | inl natives ↦ dot_native n c s (vector q u) narrow natives pair (vector_bytes q u bytes (2 * c + s)) ∙ vector_off q s c u pair (omega arith) ne
  | inr high ↦ elim (cases_eq c (n - 2)) [
    | inl is ↦ subst (λ (d : ℕ). dot (native_count n) (code_row (striped_code n) d s) (vector q u) ≡ 0) (sym is)
        (dot_sums n s (vector q u) wide narrow pair ∙ along_vector n q s (λ d. 1) u narrow ∙ along_off n q s (λ d. 1) u ne)
    | inr other ↦
        let last : n - 1 ≡ c = omega arith in
        subst (λ (d : ℕ). dot (native_count n) (code_row (striped_code n) d s) (vector q u) ≡ 0) last
        (dot_powers n s (vector q u) wide narrow pair ∙ along_vector n q s (λ d. 2 ^ d) u narrow ∙ along_off n q s (λ d. 2 ^ d) u ne)
  ]
]

-- and so does each row of its own stripe but those of the three clouds
on_stripe : (n q a b l c : ℕ) (u : ℕ → ℕ) → 4 ≤ n → n ≤ 10 → q < 2 → IsHidden n q a b l u → c < n → c ≢ a → c ≢ b → c ≢ l
    → dot (native_count n) (code_row (striped_code n) c q) (vector q u) ≡ 0
on_stripe n q a b l c u wide narrow pair h within na nb nl = elim (cases_lt c (n - 2)) [
  | inl natives ↦
      let place : (2 * c + q) % 2 ≡ q = omega arith in
      let cloud : (2 * c + q) / 2 ≡ c = omega arith in
      dot_native n c q (vector q u) narrow natives pair (vector_bytes q u h.bytes (2 * c + q))
      ∙ vector_at q u (2 * c + q) (omega arith) ∙ stripe_on q (2 * c + q) u place ∙ ap u cloud ∙ h.only c natives na nb nl
  | inr high ↦ elim (cases_eq c (n - 2)) [
    | inl is ↦ subst (λ (d : ℕ). dot (native_count n) (code_row (striped_code n) d q) (vector q u) ≡ 0) (sym is)
        (dot_sums n q (vector q u) wide narrow pair ∙ along_vector n q q (λ d. 1) u narrow ∙ h.sums (omega arith) (omega arith) (omega arith))
    | inr other ↦
        let last : n - 1 ≡ c = omega arith in
        subst (λ (d : ℕ). dot (native_count n) (code_row (striped_code n) d q) (vector q u) ≡ 0) last
        (dot_powers n q (vector q u) wide narrow pair ∙ along_vector n q q (λ d. 2 ^ d) u narrow ∙ h.powers (omega arith) (omega arith) (omega arith))
  ]
]

other_row : (n q a b l c s : ℕ) (u : ℕ → ℕ) → 4 ≤ n → n ≤ 10 → q < 2 → IsHidden n q a b l u → c < n → s < 2 → c ≢ a → c ≢ b → c ≢ l
    → dot (native_count n) (code_row (striped_code n) c s) (vector q u) ≡ 0
other_row n q a b l c s u wide narrow pair h within low na nb nl = elim (cases_eq s q) [
  | inl e ↦ subst (λ (r : ℕ). dot (native_count n) (code_row (striped_code n) c r) (vector q u) ≡ 0) (sym e) (on_stripe n q a b l c u wide narrow pair h within na nb nl)
  | inr ne ↦ off_stripe n q c s u wide narrow h.bytes within low ne
]

-- ---- two survivors with one choice

record IsPick (f : ℕ → ℕ) (lost a b : ℕ) : Type 0 where
  less : a < b
  low : b < 4
  not_first : a ≢ lost
  not_second : b ≢ lost
  same : f a ≡ f b

abbrev Picked : (ℕ → ℕ) → ℕ → Type 0
Picked f lost = (a : ℕ) × (b : ℕ) × IsPick f lost a b

of_three_clouds : (f : ℕ → ℕ) (lost x y z : ℕ) → ((t : ℕ) → f t < 2) → x < y → y < z → z < 4 → x ≢ lost → y ≢ lost → z ≢ lost → Picked f lost
of_three_clouds f lost x y z small xy yz low nx ny nz = elim (cases_eq (f x) (f y)) [
  | inl e ↦ (x, y, record { less = xy; low = omega arith; not_first = nx; not_second = ny; same = e })
  | inr ne ↦ elim (cases_eq (f x) (f z)) [
    | inl e ↦ (x, z, record { less = omega arith; low = low; not_first = nx; not_second = nz; same = e })
    | inr ne2 ↦ (y, z, record { less = yz; low = low; not_first = ny; not_second = nz; same = omega (arith, small x, small y, small z) })
  ]
]

pick : (f : ℕ → ℕ) (lost : ℕ) → ((t : ℕ) → f t < 2) → Picked f lost
pick f lost small = elim (cases_eq lost 0) [
  | inl e ↦ of_three_clouds f lost 1 2 3 small (omega arith) (omega arith) (omega arith) (omega arith) (omega arith) (omega arith)
  | inr n0 ↦ elim (cases_eq lost 1) [
    | inl e ↦ of_three_clouds f lost 0 2 3 small (omega arith) (omega arith) (omega arith) (omega arith) (omega arith) (omega arith)
    | inr n1 ↦ elim (cases_eq lost 2) [
      | inl e ↦ of_three_clouds f lost 0 1 3 small (omega arith) (omega arith) (omega arith) (omega arith) (omega arith) (omega arith)
      | inr n2 ↦ of_three_clouds f lost 0 1 2 small (omega arith) (omega arith) (omega arith) (omega arith) (omega arith) (omega arith)
    ]
  ]
]

-- ---- the law

abbrev choice_of : PlanParts → ℕ → ℕ
choice_of plan t = slice_index plan.choice t

-- the row that the plan takes from a survivor sends the vector to 0
taken_row : (n q lost a b t : ℕ) (plan : PlanParts) (u : ℕ → ℕ) → 4 ≤ n → n ≤ 10 → q < 2 → IsPlan plan → IsPick (choice_of plan) lost a b → q ≢ choice_of plan a
    → IsHidden n q a b lost u → t < n → t ≢ lost → dot (native_count n) (code_row (striped_code n) t (choice_of plan t)) (vector q u) ≡ 0
taken_row n q lost a b t plan u wide narrow pair is p ne h within nl = elim (cases_eq t a) [
  | inl e ↦ off_stripe n q t (choice_of plan t) u wide narrow h.bytes within (is.choices t) (λ same. ne (sym same ∙ ap (choice_of plan) e))
  | inr na ↦ elim (cases_eq t b) [
    | inl e ↦ off_stripe n q t (choice_of plan t) u wide narrow h.bytes within (is.choices t) (λ same. ne (sym same ∙ ap (choice_of plan) e ∙ sym p.same))
    | inr nb ↦ other_row n q a b lost t (choice_of plan t) u wide narrow pair h within (is.choices t) na nb nl
  ]
]

new_row : (n q lost a b r : ℕ) (plan : PlanParts) (u : ℕ → ℕ) → 4 ≤ n → n ≤ 10 → q < 2 → IsPlan plan → IsPick (choice_of plan) lost a b → q ≢ choice_of plan a
    → IsHidden n q a b lost u → dot (native_count n) (repaired_row (striped_code n) lost plan r) (vector q u) ≡ 0
new_row n q lost a b r plan u wide narrow pair is p ne h =
    let width = striped_width n in
    new_row_zero (striped_code n) lost plan r (native_count n) (slice_index (vector q u)) (omega arith)
    (record { rows = striped_bytes n; coefs = is.shape.bytes })
    (vector_bytes q u h.bytes)
    (λ t within nl. taken_row n q lost a b t plan u wide narrow pair is p ne h (omega arith) nl)

-- each row of the repaired code, but for those of a and b
sent : (n q lost a b c s : ℕ) (plan : PlanParts) (u : ℕ → ℕ) → 4 ≤ n → n ≤ 10 → q < 2 → lost < n → IsPlan plan → IsPick (choice_of plan) lost a b → q ≢ choice_of plan a
    → IsHidden n q a b lost u → c < n → s < 2 → c ≢ a → c ≢ b → dot (native_count n) (code_row (repaired (striped_code n) lost plan) c s) (vector q u) ≡ 0
sent n q lost a b c s plan u wide narrow pair in_width is p ne h within low na nb = elim (cases_eq c lost) [
  | inl e ↦
      ap (λ (d : ℕ). dot (native_count n) (code_row (repaired (striped_code n) lost plan) d s) (vector q u)) e
      ∙ ap (λ (row : List ℕ). dot (native_count n) row (vector q u)) (lost_row (striped_code n) lost plan s (omega (arith, striped_long n)) low)
      ∙ new_row n q lost a b s plan u wide narrow pair is p ne h
  | inr nl ↦
      ap (λ (row : List ℕ). dot (native_count n) row (vector q u)) (survivor_row (striped_code n) lost plan c s nl low)
      ∙ other_row n q a b lost c s u wide narrow pair h within low na nb nl
]

refuted : (n q lost a b : ℕ) (plan : PlanParts) (u : ℕ → ℕ) → 4 ≤ n → n ≤ 10 → q < 2 → lost < n → IsPlan plan → IsPick (choice_of plan) lost a b → q ≢ choice_of plan a
    → IsHidden n q a b lost u → IsPairMds (repaired (striped_code n) lost plan) a b → ⊥
refuted n q lost a b plan u wide narrow pair in_width is p ne h mds =
    let width : (repaired (striped_code n) lost plan).width ≡ n = repaired_width (striped_code n) lost plan ∙ striped_width n in
    let low = h.low in
    let place : (2 * h.place + q) % 2 ≡ q = omega arith in
    let cloud : (2 * h.place + q) / 2 ≡ h.place = omega arith in
    let here : slice_index (vector q u) (2 * h.place + q) ≡ u h.place =
    vector_at q u (2 * h.place + q) (omega arith) ∙ stripe_on q (2 * h.place + q) u place ∙ ap u cloud in
    let zero : slice_index (vector q u) (2 * h.place + q) ≡ 0 = mds.free.only_zeros (vector q u) (vector_bytes q u h.bytes)
    (λ row without.
    ap (λ (x : List ℕ). dot (native_count (repaired (striped_code n) lost plan).width) x (vector q u)) without.is_row
    ∙ ap (λ (w : ℕ). dot (native_count w) (code_row (repaired (striped_code n) lost plan) without.cloud without.place) (vector q u)) width
    ∙ sent n q lost a b without.cloud without.place plan u wide narrow pair in_width is p ne h (subst (λ (w : ℕ). without.cloud < w) width without.in_width) without.in_pair without.not_first without.not_second)
    (2 * h.place + q) (subst (λ (w : ℕ). 2 * h.place + q < native_count w) (sym width) (omega arith)) in
    h.not_zero (sym here ∙ zero)

pub no_witness : StripedHasNoWitness
no_witness n lost plan wide narrow in_width is w =
    let p = pick (choice_of plan) lost is.choices in
    let a = p.0 in
    let b = p.1 in
    let q = 1 - choice_of plan p.0 in
    let ne : 1 - choice_of plan p.0 ≢ choice_of plan p.0 = omega (arith, is.choices p.0) in
    let less = p.2.less in
    let low = p.2.low in
    let h = hidden n q a b lost wide narrow (omega arith) less (omega arith) in_width (λ e. p.2.not_first (sym e)) (λ e. p.2.not_second (sym e)) in
    refuted n q lost a b plan h.0 wide narrow (omega arith) in_width is p.2 ne h.1
    (w.mds a b less (subst (λ (x : ℕ). b < x) (sym (repaired_width (striped_code n) lost plan ∙ striped_width n)) (omega arith)))
