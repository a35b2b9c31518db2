-- The asks of a repair.
use Rattle.std.proofs.Common.{◌≡◌, ◌<◌, ◌≤◌, ◌+◌, ◌-◌, ◌⊎◌, ℕ, List, length, get_or, inl, inr, refl, sym, ap, ◌∙◌, subst, arith}
use Rattle.std.proofs.lemmas.Bool.{cases_lt, cond_above, cond_below}
use Rattle.std.proofs.lemmas.List.{get_or-map, length-map}
use Rattle.nc_name.specs.declared.key.Key.{Key}
use Rattle.nc_code.specs.Parts.{PlanParts}
use Rattle.nc_cloud.specs.declared.fleet.Ask.{Ask}
use Rattle.nc_cloud.specs.Deciding.{AreAscending}
use Rattle.nc_cloud.specs.Fleet.{asked}
use Rattle.nc_cloud.specs.Rounds.{row}
use Rattle.nc_cloud.proofs.Rounds.{get_or-row, length-row}
use Rattle.nc_cloud.proofs.SomeRows.{ascend_map}
use Rattle.nc_meta.specs.declared.meta.Live.{Live}
use Rattle.nc_repair.specs.Asking.{AreSurvivorAsks, survivor_ask}
use Rattle.nc_mix.specs.Regenerating.{survivor}

pub survivor_cases : (lost k : ℕ) → ((k < lost) × (survivor lost k ≡ k)) ⊎ ((lost ≤ k) × (survivor lost k ≡ k + 1))
survivor_cases lost k = elim (cases_lt k lost) [
  | inl low ↦ inl (low, sym (cond_below k lost k (k + 1) low))
  | inr high ↦ inr (omega (arith, high), sym (cond_above k lost k (k + 1) (k + 1) high refl))
]

pub survivor_below : (n lost k : ℕ) → k < n - 1 → survivor lost k < n
survivor_below n lost k l = elim (survivor_cases lost k) [
  | inl low ↦ subst (λ c. c < n) (sym low.1) (omega (arith, l))
  | inr high ↦ subst (λ c. c < n) (sym high.1) (omega (arith, l))
]

pub survivors_rise : (lost j k : ℕ) → j < k → survivor lost j < survivor lost k
survivors_rise lost j k l = elim (survivor_cases lost j) [
  | inl low ↦ elim (survivor_cases lost k) [
    | inl other ↦ subst (λ c. c < survivor lost k) (sym low.1) (subst (λ c. j < c) (sym other.1) l)
    | inr other ↦ subst (λ c. c < survivor lost k) (sym low.1) (subst (λ c. j < c) (sym other.1) (omega (arith, l)))
  ]
  | inr high ↦ elim (survivor_cases lost k) [
    | inl other ↦ let under : k < lost = other.0 in let over : lost ≤ j = high.0 in absurd (omega (arith, l, under, over))
    | inr other ↦ subst (λ c. c < survivor lost k) (sym high.1) (subst (λ c. j + 1 < c) (sym other.1) (omega (arith, l)))
  ]
]

pub survivors_keep : (lost j k : ℕ) → j ≤ k → survivor lost j ≤ survivor lost k
survivors_keep lost j k l = elim (cases_lt j k) [
  | inl later ↦ let rising : survivor lost j < survivor lost k = survivors_rise lost j k later in omega (arith, rising)
  | inr level ↦ let same : j ≡ k = omega (arith, l, level) in let is : survivor lost j ≡ survivor lost k = ap (survivor lost) same in omega (arith, is)
]

module _ (n : ℕ) (name : List ℕ) (m : Live) (plan : PlanParts) (lost : ℕ) where
  abbrev entry : ℕ → ℕ × Key × ℕ
  entry = survivor_ask n name m plan lost

  cloud_at : (i : ℕ) (d : ℕ × Key × ℕ) → i < length (row entry 0 (n - 1)) → (get_or (row entry 0 (n - 1)) i d).0 ≡ survivor lost i
  cloud_at i d l =
      let within : i < n - 1 = let long : length (row entry 0 (n - 1)) ≡ n - 1 = length-row entry 0 (n - 1) in omega (arith, long, l) in
      let first : 0 + i ≡ i = omega arith in
      ap (λ (x : ℕ × Key × ℕ). x.0) (get_or-row entry 0 (n - 1) i d within) ∙ ap (survivor lost) first

  -- they ascend
  pub asks_ascend : (asks : List Ask) → AreSurvivorAsks n name m plan lost asks → AreAscending (λ a. a.cloud) n asks
  asks_ascend asks are =
      ascend_map asked (λ (x : ℕ × Key × ℕ). x.0) n asks (row entry 0 (n - 1)) are.are
      (record {
        below = λ i d l.
            let within : i < n - 1 = let long : length (row entry 0 (n - 1)) ≡ n - 1 = length-row entry 0 (n - 1) in omega (arith, long, l) in
            subst (λ c. c < n) (sym (cloud_at i d l)) (survivor_below n lost i within);
        rising = λ i j d l k.
            let first : i < length (row entry 0 (n - 1)) = omega (arith, l, k) in
            subst (λ c. c < (get_or (row entry 0 (n - 1)) j d).0) (sym (cloud_at i d first)) (subst (λ c. survivor lost i < c) (sym (cloud_at j d k)) (survivors_rise lost i j l));
      })

  -- the entry at position k is that of the survivor there
  pub ask_cloud : (asks : List Ask) → AreSurvivorAsks n name m plan lost asks → (k : ℕ) (d : Ask) → k < length asks → (get_or asks k d).cloud ≡ survivor lost k
  ask_cloud asks are k d low =
      let long : length asks ≡ length (row entry 0 (n - 1)) = sym (length-map asks asked) ∙ ap length are.are in
      ap (λ (x : ℕ × Key × ℕ). x.0) (sym (get_or-map asked asks k d (asked d) low) ∙ ap (λ xs. get_or xs k (asked d)) are.are) ∙ cloud_at k (asked d) (omega (arith, low, long))
