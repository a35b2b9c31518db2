-- Lists and tables that hold the values of a function, read also past their ends.
use Rattle.std.proofs.Common.{◌≡◌, ℕ, ◌<◌, ◌≤◌, List, [], length, get_or, map, refl, sym, subst, ◌∙◌, arith, inl, inr}
use Rattle.std.specs.List.{range_with_len}
use Rattle.std.proofs.lemmas.Bool.{cases_lt}
use Rattle.std.proofs.lemmas.List.FromFn.{get_or-map-range_with_len, length-map-range_with_len}
use Rattle.std.proofs.lemmas.List.{get_or_past}

-- what holds of the value at a place, and of none, holds of what is read there
pub get_or_each : {A : Type 0} (P : A → Type 0) (f : ℕ → A) (n k : ℕ) (none : A) → P none → (k < n → P (f k)) → P (get_or (map f (range_with_len 0 n)) k none)
get_or_each P f n k none past_end here = elim (cases_lt k n) [
  | inl below ↦ subst P (sym (get_or-map-range_with_len f 0 n k k none below (omega arith))) (here below)
  | inr past ↦ subst P (sym (get_or_past (map f (range_with_len 0 n)) k none (omega (arith, length-map-range_with_len f 0 n)))) past_end
]

pub get_or_zero : (f : ℕ → ℕ) (n k : ℕ) → (k < n → f k ≡ 0) → get_or (map f (range_with_len 0 n)) k 0 ≡ 0
get_or_zero f n k h = get_or_each (λ (e : ℕ). e ≡ 0) f n k 0 refl h

-- a table of twenty rows of sixteen entries
abbrev pub AreFilled : (ℕ → ℕ → ℕ) → List (List ℕ) → Type 0
AreFilled entry rows = (length rows ≡ 20) × ((i : ℕ) → i < 20 → get_or rows i [] ≡ map (entry i) (range_with_len 0 16))

pub filled_zero : (entry : ℕ → ℕ → ℕ) (rows : List (List ℕ)) → AreFilled entry rows → (i k : ℕ) → entry i k ≡ 0 → get_or (get_or rows i []) k 0 ≡ 0
filled_zero entry rows are i k zero = elim (cases_lt i 20) [
  | inl below ↦ rw (are.1 i below) (get_or_zero (entry i) 16 k (λ _. zero))
  | inr above ↦ rw (get_or_past rows i [] (omega (arith, are.0)))
]

-- a loop over all rows has filled them all
pub all_filled : (entry : ℕ → ℕ → ℕ) (n : ℕ) (rows : List (List ℕ)) → 20 ≤ n
    → (length rows ≡ 20) × ((i : ℕ) → i < n → get_or rows i [] ≡ map (entry i) (range_with_len 0 16)) → AreFilled entry rows
all_filled entry n rows end h = (h.0, λ i below. h.1 i (omega arith))
