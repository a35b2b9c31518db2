-- How many chunks a round of gets gave.
use Rattle.std.proofs.Common.{◌≡◌, ◌≢◌, ◌<◌, ◌≤◌, ◌+◌, ◌∷◌, ◌&&◌, ℕ, zero, suc, Bool, true, false, if◌then◌else◌, List, [], get_or, All, AllPairs, Contains, inl, inr, refl, ap, ◌∙◌, arith}
use Rattle.std.proofs.lemmas.Bool.Decides.{eqb_tells}
use Rattle.nc_cloud.specs.declared.fleet.Ask.{Ask}
use Rattle.nc_cloud.specs.Fleet.{chunks_got, is_bytes, is_chunk}

skip : (c : ℕ) (a : Ask) (asks : List Ask) → a.cloud ≢ c → chunks_got c (a ∷ asks) ≡ chunks_got c asks
skip c a asks other =
    elim (eqb_tells a.cloud c) [
      | inl same ↦ absurd (other same.1)
      | inr differs ↦ ap (λ (b : Bool). (if b && (is_chunk a.key && is_bytes a.answer) then 1 else 0) + chunks_got c asks) differs.0 ∙ omega arith
    ]

pub none_got : (c : ℕ) (asks : List Ask) → All (λ a. a.cloud ≢ c) asks → chunks_got c asks ≡ 0
none_got c [] none = refl
none_got c (a ∷ asks) none = skip c a asks (none 0 a (omega arith)) ∙ none_got c asks (λ k d l. none (suc k) d (omega (arith, l)))

one_here : (c : ℕ) (a : Ask) (asks : List Ask) → a.cloud ≡ c → All (λ b. b.cloud ≢ c) asks → chunks_got c (a ∷ asks) ≡ (if is_chunk a.key && is_bytes a.answer then 1 else 0)
one_here c a asks same none =
    elim (eqb_tells a.cloud c) [
      | inl equal ↦ ap (λ (b : Bool). (if b && (is_chunk a.key && is_bytes a.answer) then 1 else 0) + chunks_got c asks) equal.0 ∙ ap (λ k. (if is_chunk a.key && is_bytes a.answer then 1 else 0) + k) (none_got c asks none) ∙ omega arith
      | inr differs ↦ absurd (differs.1 same)
    ]

pub one_got : (c : ℕ) (asks : List Ask) (x : Ask) → AllPairs (λ a b. a.cloud < b.cloud) asks → Contains asks x → x.cloud ≡ c → chunks_got c asks ≡ (if is_chunk x.key && is_bytes x.answer then 1 else 0)
one_got c [] x rising (i, l, is) same = absurd (omega arith)
one_got c (a ∷ asks) x rising (zero, l, is) same =
    let here : a.cloud ≡ c = ap (λ (b : Ask). b.cloud) is ∙ same in
    one_here c a asks here (λ k d m e. let less : a.cloud < (get_or asks k d).cloud = rising 0 (suc k) d (omega arith) (omega (arith, m)) in omega (arith, less, here, e))
    ∙ ap (λ (b : Ask). if is_chunk b.key && is_bytes b.answer then 1 else 0) is
one_got c (a ∷ asks) x rising (suc i, l, is) same =
    let less : a.cloud < (get_or asks i x).cloud = rising 0 (suc i) x (omega arith) l in
    let there : (get_or asks i x).cloud ≡ x.cloud = ap (λ (b : Ask). b.cloud) is in
    skip c a asks (λ e. omega (arith, less, there, same, e))
    ∙ one_got c asks x (λ j k d m n. rising (suc j) (suc k) d (omega (arith, m)) (omega (arith, n))) (i, omega (arith, l), is) same

at_most_one : (b : Bool) → (if b then 1 else 0) ≤ 1
at_most_one true = omega arith
at_most_one false = omega arith

-- at most one where each cloud has at most one entry
pub few_got : (c : ℕ) (asks : List Ask) → AllPairs (λ a b. a.cloud < b.cloud) asks → chunks_got c asks ≤ 1
few_got c [] rising = omega arith
few_got c (a ∷ asks) rising =
    elim (eqb_tells a.cloud c) [
      | inl equal ↦
          let here : chunks_got c (a ∷ asks) ≡ (if is_chunk a.key && is_bytes a.answer then 1 else 0) =
          one_here c a asks equal.1 (λ k d m e. let less : a.cloud < (get_or asks k d).cloud = rising 0 (suc k) d (omega arith) (omega (arith, m)) in omega (arith, less, equal.1, e)) in
          let few : (if is_chunk a.key && is_bytes a.answer then 1 else 0) ≤ 1 = at_most_one (is_chunk a.key && is_bytes a.answer) in
          omega (arith, here, few)
      | inr differs ↦
          let rest : chunks_got c asks ≤ 1 = few_got c asks (λ j k d l m. rising (suc j) (suc k) d (omega (arith, l)) (omega (arith, m))) in
          let same : chunks_got c (a ∷ asks) ≡ chunks_got c asks = skip c a asks differs.1 in
          omega (arith, rest, same)
    ]
