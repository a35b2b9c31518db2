-- Facts that a test shows at each number below a bound.
use Rattle.std.proofs.Common.{◌≡◌, ℕ, zero, suc, ◌<◌, ◌==◌, Bool, true, ◌&&◌, arith, inl, inr, eqb-true, ltb-true, nat_lt}
use Rattle.std.proofs.lemmas.Bool.{and_parts, cases_lt}

-- whether the test passes at each number below n
abbrev pub all_below : ℕ → (ℕ → Bool) → Bool
all_below zero test = true
all_below (suc n) test = test n && all_below n test

pub all_below_at : (n : ℕ) (test : ℕ → Bool) → all_below n test ≡ true → (k : ℕ) → k < n → test k ≡ true
all_below_at zero test h k lt = absurd (omega arith)
all_below_at (suc n) test h k lt =
    let parts = and_parts (test n) (all_below n test) h in
    elim (cases_lt k n) [
      | inl below ↦ all_below_at n test parts.1 k below
      | inr top ↦
          let e : k ≡ n = omega arith in
          rw e parts.0
    ]

-- two functions are the same below n where a test says so
pub same_below : (n : ℕ) (f g : ℕ → ℕ) → all_below n (λ k. f k == g k) ≡ true → (k : ℕ) → k < n → f k ≡ g k
same_below n f g h k lt = eqb-true (f k) (g k) (all_below_at n (λ k. f k == g k) h k lt)

-- the values of a function stay below a bound where a test says so
pub bounded_below : (n bound : ℕ) (f : ℕ → ℕ) → all_below n (λ k. nat_lt (f k) bound) ≡ true → (k : ℕ) → k < n → f k < bound
bounded_below n bound f h k lt = ltb-true (f k) bound (all_below_at n (λ k. nat_lt (f k) bound) h k lt)
