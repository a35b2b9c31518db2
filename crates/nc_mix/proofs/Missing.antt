-- Of k + 2 clouds, k in ascending order leave two out, and are all the others.
use Rattle.std.proofs.Common.{◌≡◌, ◌≢◌, ℕ, ◌+◌, ◌-◌, ◌<◌, ◌≤◌, zero, suc, ap, subst, inl, inr, arith}
use Rattle.std.proofs.lemmas.Bool.{cases_lt}

-- the values of f at the first k places ascend, and are below k + 2
pub record IsAscending (k : ℕ) (f : ℕ → ℕ) : Type 0 where
  pub step : (p q : ℕ) → p < q → q < k → f p < f q
  pub below : (p : ℕ) → p < k → f p < k + 2

-- two numbers below k + 2 such that each other one is a value
pub record LeavesOut (k : ℕ) (f : ℕ → ℕ) : Type 0 where
  pub first : ℕ
  pub second : ℕ
  pub apart : first < second
  pub within : second < k + 2
  pub others : (c : ℕ) → c < k + 2 → c ≢ first → c ≢ second → (p : ℕ) × (p < k) × (f p ≡ c)

-- over d places the values rise by at least d
rises : (k : ℕ) (f : ℕ → ℕ) (p d : ℕ) → IsAscending k f → p + d < k → f p + d ≤ f (p + d)
rises k f p zero a h = let e : p ≡ p + 0 = omega arith in let same : f p ≡ f (p + 0) = ap f e in omega arith
rises k f p (suc d) a h =
    let before : f p + d ≤ f (p + d) = rises k f p d a (omega arith) in
    let e : p + d + 1 ≡ p + suc d = omega arith in
    let step : f (p + d) < f (p + d + 1) = a.step (p + d) (p + d + 1) (omega arith) (omega arith) in
    let same : f (p + d + 1) ≡ f (p + suc d) = ap f e in
    omega arith

risen : (k : ℕ) (f : ℕ → ℕ) (p q : ℕ) → IsAscending k f → p ≤ q → q < k → f p + (q - p) ≤ f q
risen k f p q a h below =
    let e : p + (q - p) ≡ q = omega arith in
    subst (λ n. f p + (q - p) ≤ f n) e (rises k f p (q - p) a (omega arith))

at_least : (k : ℕ) (f : ℕ → ℕ) (p : ℕ) → IsAscending k f → p < k → p ≤ f p
at_least k f p a h = let r : f 0 + (p - 0) ≤ f p = risen k f 0 p a (omega arith) h in omega arith

at_most : (k : ℕ) (f : ℕ → ℕ) (p : ℕ) → IsAscending k f → p < k → f p ≤ p + 2
at_most k f p a h =
    let r : f p + ((k - 1) - p) ≤ f (k - 1) = risen k f p (k - 1) a (omega arith) (omega arith) in
    let last : f (k - 1) < k + 2 = a.below (k - 1) (omega arith) in
    omega arith

-- the first place from which on the values are more than t above their places
record TurnsAt (j t : ℕ) (f : ℕ → ℕ) : Type 0 where
  turn : ℕ
  within : turn ≤ j
  before : (p : ℕ) → p < turn → f p ≤ p + t
  after : (p : ℕ) → turn ≤ p → p < j → p + t < f p

turns_at : (k : ℕ) (f : ℕ → ℕ) (t j : ℕ) → IsAscending k f → j ≤ k → TurnsAt j t f
turns_at k f t zero a h = record { turn = 0; within = omega arith; before = λ p l. absurd (omega arith); after = λ p l m. absurd (omega arith) }
turns_at k f t (suc j) a h = elim (cases_lt (j + t) (f j)) [
  | inr low ↦ record {
    turn = suc j;
    within = omega arith;
    before = λ p l. (let r : f p + (j - p) ≤ f j = risen k f p j a (omega arith) (omega arith) in omega arith);
    after = λ p l m. absurd (omega arith);
  }
  | inl high ↦
      let rest : TurnsAt j t f = turns_at k f t j a (omega arith) in
      record {
        turn = rest.turn;
        within = (let w : rest.turn ≤ j = rest.within in omega arith);
        before = rest.before;
        after = λ p l m. elim (cases_lt p j) [
          | inl below ↦ rest.after p l below
          | inr past ↦ (let e : j ≡ p = omega arith in subst (λ q. q + t < f q) e high)
        ];
      }
]

pub leaves_out : (k : ℕ) (f : ℕ → ℕ) → IsAscending k f → LeavesOut k f
leaves_out k f a =
    let one : TurnsAt k 0 f = turns_at k f 0 k a (omega arith) in
    let two : TurnsAt k 1 f = turns_at k f 1 k a (omega arith) in
    let first_within : one.turn ≤ k = one.within in
    let second_within : two.turn ≤ k = two.within in
    let ordered : one.turn ≤ two.turn = elim (cases_lt two.turn one.turn) [
      | inr fine ↦ fine
      | inl wrong ↦ absurd (let low : f two.turn ≤ two.turn + 0 = one.before two.turn wrong in let high : two.turn + 1 < f two.turn = two.after two.turn (omega arith) (omega arith) in omega arith)
    ] in
    record {
      first = one.turn;
      second = two.turn + 1;
      apart = omega arith;
      within = omega arith;
      others = λ c below not_first not_second. elim (cases_lt c one.turn) [
        | inl front ↦ (
          c,
          omega arith,
          (let low : f c ≤ c + 0 = one.before c front in let high : c ≤ f c = at_least k f c a (omega arith) in omega arith),
        )
        | inr middle ↦ elim (cases_lt c (two.turn + 1)) [
          | inl inner ↦ (
            c - 1,
            omega arith,
            (let low : f (c - 1) ≤ c - 1 + 1 = two.before (c - 1) (omega arith) in
                let high : c - 1 + 0 < f (c - 1) = one.after (c - 1) (omega arith) (omega arith) in omega arith),
          )
          | inr outer ↦ (
            c - 2,
            omega arith,
            (let low : f (c - 2) ≤ c - 2 + 2 = at_most k f (c - 2) a (omega arith) in
                let high : c - 2 + 1 < f (c - 2) = two.after (c - 2) (omega arith) (omega arith) in omega arith),
          )
        ]
      ];
    }
