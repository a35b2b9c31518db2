-- How many clouds of a range weren't found bad.
use Rattle.std.proofs.Common.{◌≡◌, ◌≤◌, ◌+◌, ◌-◌, ◌++◌, ℕ, zero, suc, Bool, true, false, if◌then◌else◌, Option, None, Some, List, [], option_to_list, length, length-append, refl, sym, ap, ◌∙◌, arith}
use Rattle.nc_cloud.specs.Rounds.{some_row}
use Rattle.nc_download.specs.declared.short.Bad.{Bad}
use Rattle.nc_download.specs.declared.short.Why.{Why}
use Rattle.nc_fetch.specs.Whys.{bad_with, bads, free, free_at, is_fine, why_at}
use Rattle.nc_fetch.proofs.SomeLists.{some_join}

pub one_length : (c : ℕ) (b : Bool) → length (option_to_list (if b then Some c else None)) ≡ (if b then 1 else 0)
one_length c true = refl
one_length c false = refl

pub same_count : (a b : Bool) → a ≡ b → ◌≡◌ {A = ℕ} (if a then 1 else 0) (if b then 1 else 0)
same_count a b e = ap (λ (x : Bool). if x then 1 else 0) e

pub at_most_one : (b : Bool) → (if b then 1 else 0) ≤ 1
at_most_one true = omega arith
at_most_one false = omega arith

nil_left : {X : Type 0} (o : Option X) → option_to_list o ++ [] ≡ option_to_list o
nil_left None = refl
nil_left (Some x) = refl

module _ (whys : List (Option Why)) (a : ℕ) where
  pub free_none : length (free whys a a) ≡ 0
  free_none = let none : a - a ≡ 0 = omega arith in ap (λ k. length (some_row (free_at whys) a k)) none

  -- one cloud more
  pub free_one : (c : ℕ) → a ≤ c → length (free whys a (c + 1)) ≡ length (free whys a c) + (if is_fine (why_at whys c) then 1 else 0)
  free_one c low =
      let one : (c + 1) - c ≡ suc 0 = omega arith in
      ap length (some_join (free_at whys) a c (c + 1) low (omega arith) ∙ ap (λ k. free whys a c ++ some_row (free_at whys) c k) one ∙ ap (λ xs. free whys a c ++ xs) (nil_left (free_at whys c)))
      ∙ length-append (free whys a c) (option_to_list (free_at whys c))
      ∙ ap (λ k. length (free whys a c) + k) (one_length c (is_fine (why_at whys c)))

  -- fewer of fewer clouds
  pub free_less : (b c : ℕ) → a ≤ b → b ≤ c → length (free whys a b) ≤ length (free whys a c)
  free_less b c low high =
      let both : length (free whys a c) ≡ length (free whys a b) + length (free whys b c) = ap length (some_join (free_at whys) a b c low high) ∙ length-append (free whys a b) (free whys b c) in
      omega (arith, both)

-- ---- the bad ones

pub bad_none : (whys : List (Option Why)) → [] ≡ bads whys 0 0
bad_none whys = refl

pub bad_one : (whys : List (Option Why)) (c : ℕ) (list next : List Bad) (why : Option Why) → list ≡ bads whys 0 c → why ≡ why_at whys c → next ≡ list ++ option_to_list (bad_with c why) → next ≡ bads whys 0 (c + 1)
bad_one whys c list next why so_far is added =
    let one : (c + 1) - c ≡ suc 0 = omega arith in
    added
    ∙ ap (λ xs. xs ++ option_to_list (bad_with c why)) so_far
    ∙ ap (λ (w : Option Why). bads whys 0 c ++ option_to_list (bad_with c w)) is
    ∙ ap (λ xs. bads whys 0 c ++ xs) (sym (nil_left (bad_with c (why_at whys c))))
    ∙ ap (λ k. bads whys 0 c ++ some_row (λ d. bad_with d (why_at whys d)) c k) (sym one)
    ∙ sym (some_join (λ d. bad_with d (why_at whys d)) 0 c (c + 1) (omega arith) (omega arith))

few_step : (o : Option Why) (c : ℕ) → length (option_to_list (bad_with c o)) ≤ 1
few_step None c = omega arith
few_step (Some why) c = omega arith

pub bads_few : (whys : List (Option Why)) (a k : ℕ) → length (some_row (λ d. bad_with d (why_at whys d)) a k) ≤ k
bads_few whys a zero = omega arith
bads_few whys a (suc k) =
    let here : length (option_to_list (bad_with a (why_at whys a))) ≤ 1 = few_step (why_at whys a) a in
    let rest : length (some_row (λ d. bad_with d (why_at whys d)) (suc a) k) ≤ k = bads_few whys (suc a) k in
    let both = length-append (option_to_list (bad_with a (why_at whys a))) (some_row (λ d. bad_with d (why_at whys d)) (suc a) k) in
    omega (arith, here, rest, both)
