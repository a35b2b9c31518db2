-- Tests on sets of clouds.
use Rattle.std.proofs.Common.{◌≡◌, ◌≢◌, ◌<◌, ◌≤◌, ◌+◌, ◌&&◌, ◌||◌, ℕ, zero, suc, Bool, true, false, if◌then◌else◌, inl, inr, refl, sym, ap, ◌∙◌, subst, arith}
use Rattle.std.specs.Bool.{Decides}
use Rattle.std.proofs.lemmas.Bool.Decides.{Decides-below_and, Decides-below_or, eqb_tells}
use Rattle.nc_state.specs.Clouds.{Clouds, all_of, any_of, count_of}
use Rattle.nc_state.specs.Laws.{TwoAtMost}

pub any_of-Decides : (D : Clouds) (P : ℕ → Type 0) → ((c : ℕ) → Decides (D c) (P c)) → (n : ℕ) → Decides (any_of n D) ((c : ℕ) × (c < n) × P c)
any_of-Decides D P each n = Decides-below_or D P (λ k. any_of k D) each refl (λ k. refl) n

pub all_of-Decides : (D : Clouds) (P : ℕ → Type 0) → ((c : ℕ) → Decides (D c) (P c)) → (n : ℕ) → Decides (all_of n D) ((c : ℕ) → c < n → P c)
all_of-Decides D P each n = Decides-below_and D P (λ k. all_of k D) each refl (λ k. refl) n

outside_step : (n : ℕ) (D : Clouds) (b : Bool) → D n ≡ b → (if b then 1 else 0) + count_of n D < suc n → (count_of n D < n → (c : ℕ) × (c < n) × (D c ≡ false)) → (c : ℕ) × (c < suc n) × (D c ≡ false)
outside_step n D true is l rest = let found = rest (omega arith) in (found.0, omega (arith, found.1), found.2)
outside_step n D false is l rest = (n, omega arith, is)

-- of more clouds than are counted, one isn't
pub some_outside : (n : ℕ) (D : Clouds) → count_of n D < n → (c : ℕ) × (c < n) × (D c ≡ false)
some_outside zero D l = absurd (omega arith)
some_outside (suc n) D l = outside_step n D (D n) refl l (some_outside n D)

itself : (D : Clouds) (c : ℕ) → Decides (D c) (D c ≡ true)
itself D c = (λ e. e, λ e. e)

pub any_there : (n : ℕ) (D : Clouds) → any_of n D ≡ true → (c : ℕ) × (c < n) × (D c ≡ true)
any_there n D e = (any_of-Decides D (λ c. D c ≡ true) (itself D) n).0 e

pub any_here : (n : ℕ) (D : Clouds) (c : ℕ) → c < n → D c ≡ true → any_of n D ≡ true
any_here n D c l e = (any_of-Decides D (λ k. D k ≡ true) (itself D) n).1 (c, l, e)

pub all_there : (n : ℕ) (D : Clouds) → all_of n D ≡ true → (c : ℕ) → c < n → D c ≡ true
all_there n D e = (all_of-Decides D (λ c. D c ≡ true) (itself D) n).0 e

pub all_here : (n : ℕ) (D : Clouds) → ((c : ℕ) → c < n → D c ≡ true) → all_of n D ≡ true
all_here n D each = (all_of-Decides D (λ k. D k ≡ true) (itself D) n).1 each

not_all_step : (n : ℕ) (D : Clouds) (b : Bool) → D n ≡ b → (b && all_of n D) ≡ false → (all_of n D ≡ false → (c : ℕ) × (c < n) × (D c ≡ false)) → (c : ℕ) × (c < suc n) × (D c ≡ false)
not_all_step n D true is e rest = let found = rest e in (found.0, omega (arith, found.1), found.2)
not_all_step n D false is e rest = (n, omega arith, is)

pub not_all : (n : ℕ) (D : Clouds) → all_of n D ≡ false → (c : ℕ) × (c < n) × (D c ≡ false)
not_all zero D e = absurd cc
not_all (suc n) D e = not_all_step n D (D n) refl e (not_all n D)

pub or_true : (a b : Bool) → (a || b) ≡ true → a ≡ false → b ≡ true
or_true true b e out = absurd cc
or_true false b e out = e

pub or_false : (a b : Bool) → (a || b) ≡ false → (a ≡ false) × (b ≡ false)
or_false true b e = absurd cc
or_false false b e = (refl, e)

pub true_not_false : (b : Bool) → b ≡ true → b ≡ false → ⊥
true_not_false b is not_so = let e : true ≡ false = sym is ∙ not_so in cc

pub not_false : (b : Bool) → (b ≡ false → ⊥) → b ≡ true
not_false true wrong = refl
not_false false wrong = absurd (wrong refl)

-- ---- at most so many

-- what holds of those below n, and of n, holds of those up to n
up_to : (n : ℕ) (P : ℕ → Type 0) → P n → ((c : ℕ) → c < n → P c) → (c : ℕ) → c < suc n → P c
up_to n P here below c l =
    elim (eqb_tells c n) [
      | inl same ↦ subst P (sym same.1) here
      | inr other ↦ below c (omega (arith, l, other.1))
    ]

none_step : (n : ℕ) (D : Clouds) (b : Bool) → D n ≡ b → (if b then 1 else 0) + count_of n D ≤ 0 → (count_of n D ≤ 0 → (c : ℕ) → c < n → D c ≡ false) → (c : ℕ) → c < suc n → D c ≡ false
none_step n D true is few rest = absurd (omega arith)
none_step n D false is few rest = up_to n (λ c. D c ≡ false) is (rest (omega arith))

none_at_most : (n : ℕ) (D : Clouds) → count_of n D ≤ 0 → (c : ℕ) → c < n → D c ≡ false
none_at_most zero D few = λ c l. absurd (omega arith)
none_at_most (suc n) D few = none_step n D (D n) refl few (none_at_most n D)

-- but for a
abbrev OnlyAt : ℕ → Clouds → ℕ → Type 0
OnlyAt n D a = (c : ℕ) → c < n → c ≢ a → D c ≡ false

one_step : (n : ℕ) (D : Clouds) (b : Bool) → D n ≡ b → (if b then 1 else 0) + count_of n D ≤ 1 → (count_of n D ≤ 1 → (a : ℕ) × OnlyAt n D a) → (a : ℕ) × OnlyAt (suc n) D a
one_step n D true is few rest = (n, up_to n (λ c. c ≢ n → D c ≡ false) (λ not. absurd (not refl)) (λ c l not. none_at_most n D (omega arith) c l))
one_step n D false is few rest = let found = rest (omega arith) in (found.0, up_to n (λ c. c ≢ found.0 → D c ≡ false) (λ not. is) found.1)

one_at_most : (n : ℕ) (D : Clouds) → count_of n D ≤ 1 → (a : ℕ) × OnlyAt n D a
one_at_most zero D few = (0, λ c l. absurd (omega arith))
one_at_most (suc n) D few = one_step n D (D n) refl few (one_at_most n D)

-- but for a and b
abbrev OnlyAtTwo : ℕ → Clouds → ℕ → ℕ → Type 0
OnlyAtTwo n D a b = (c : ℕ) → c < n → c ≢ a → c ≢ b → D c ≡ false

two_step : (n : ℕ) (D : Clouds) (here : Bool) → D n ≡ here → (if here then 1 else 0) + count_of n D ≤ 2 → (count_of n D ≤ 2 → (a b : ℕ) × OnlyAtTwo n D a b) → (a b : ℕ) × OnlyAtTwo (suc n) D a b
two_step n D true is few rest =
    let one = one_at_most n D (omega arith) in
    (one.0, n, up_to n (λ c. c ≢ one.0 → c ≢ n → D c ≡ false) (λ not_a not_b. absurd (not_b refl)) (λ c l not_a not_b. one.1 c l not_a))
two_step n D false is few rest =
    let found = rest (omega arith) in
    (found.0, found.1, up_to n (λ c. c ≢ found.0 → c ≢ found.1 → D c ≡ false) (λ not_a not_b. is) found.2)

pub two_at_most : TwoAtMost
two_at_most zero D few = (0, 0, λ c l. absurd (omega arith))
two_at_most (suc n) D few = two_step n D (D n) refl few (two_at_most n D)

-- the same test on all clouds
pub any_same : (n : ℕ) (D E : Clouds) → ((c : ℕ) → c < n → D c ≡ E c) → any_of n D ≡ any_of n E
any_same zero D E same = refl
any_same (suc n) D E same =
    ap (λ (b : Bool). b || any_of n D) (same n (omega arith)) ∙ ap (λ (b : Bool). E n || b) (any_same n D E (λ c l. same c (omega (arith, l))))
