-- How a square is filled with the rows of pieces.
use Rattle.std.proofs.Common.{◌≡◌, ◌≢◌, ℕ, zero, suc, ◌+◌, ◌*◌, ◌<◌, ◌≤◌, List, [], length, get_or, set, replicate, sym, ◌∙◌, ap, subst, inl, inr, arith}
use Rattle.std.proofs.lemmas.Bool.{cases_lt, cases_eq}
use Rattle.std.proofs.lemmas.List.{length-set, length-replicate, get_or-set_same, get_or-set_other, get_or-replicate, get_or_past}
use Rattle.nc_gf256.specs.Width.{native_count}
use Rattle.nc_code.specs.Parts.{CodeParts, IsCode}
use Rattle.nc_code.specs.Codes.{code_row}
use Rattle.nc_mix.specs.declared.pieces.Piece.{Piece}

-- the rows of the first count pieces stand, and all else is 0
pub record IsFilled (code : CodeParts) (pieces : List Piece) (count : ℕ) (cells : List (List ℕ)) : Type 0 where
  pub long : length cells ≡ 16
  pub rows : (p r : ℕ) (d : Piece) → p < count → r < 2 → get_or cells (2 * p + r) [] ≡ code_row code (get_or pieces p d).cloud r
  pub below : (i k : ℕ) → 2 * count ≤ i → get_or (get_or cells i []) k 0 ≡ 0
  pub right : (i k : ℕ) → native_count code.width ≤ k → get_or (get_or cells i []) k 0 ≡ 0

both_rows : (code : CodeParts) (c : ℕ) (cells : List (List ℕ)) (base : ℕ) → get_or cells base [] ≡ code_row code c 0 → get_or cells (base + 1) [] ≡ code_row code c 1 → (r : ℕ) → r < 2 → get_or cells (base + r) [] ≡ code_row code c r
both_rows code c cells base zeroth first zero h = let e : base + 0 ≡ base = omega arith in ap (λ j. get_or cells j []) e ∙ zeroth
both_rows code c cells base zeroth first (suc zero) h = first
both_rows code c cells base zeroth first (suc (suc r)) h = absurd (omega arith)

abbrev pub zeros : List (List ℕ)
zeros = replicate 16 (replicate 16 0)

zero_cells : (i k : ℕ) → get_or (get_or zeros i []) k 0 ≡ 0
zero_cells i k = elim (cases_lt i 16) [
  | inl h ↦ ap (λ xs. get_or xs k 0) (get_or-replicate 16 i (replicate 16 0) [] h) ∙ elim (cases_lt k 16) [
    | inl below ↦ get_or-replicate 16 k 0 0 below
    | inr past ↦ get_or_past (replicate 16 0) k 0 (subst (λ n. n ≤ k) (sym (length-replicate {A = ℕ} 16 0)) past)
  ]
  | inr past ↦ ap (λ xs. get_or xs k 0) (get_or_past (replicate 16 (replicate 16 0)) i [] (subst (λ n. n ≤ i) (sym (length-replicate 16 (replicate {A = ℕ} 16 0))) past))
]

pub none_filled : (code : CodeParts) (pieces : List Piece) → IsFilled code pieces 0 zeros
none_filled code pieces = record {
  long = length-replicate 16 (replicate {A = ℕ} 16 0);
  rows = λ p r d h. absurd (omega arith);
  below = λ i k past. zero_cells i k;
  right = λ i k past. zero_cells i k;
}

pub fill_more : (code : CodeParts) (pieces : List Piece) (count : ℕ) (cells : List (List ℕ)) (c : ℕ) (first second : List ℕ) → IsCode code → IsFilled code pieces count cells → count < 8 →
    ((d : Piece) → (get_or pieces count d).cloud ≡ c) → first ≡ code_row code c 0 → second ≡ code_row code c 1 → IsFilled code pieces (count + 1) (set (set cells (2 * count) first) (2 * count + 1) second)
fill_more code pieces count cells c first second kept filled few cloud is_first is_second =
    let one : List (List ℕ) = set cells (2 * count) first in
    let two : List (List ℕ) = set one (2 * count + 1) second in
    let long : length cells ≡ 16 = filled.long in
    let long_one : length one ≡ 16 = length-set cells (2 * count) first ∙ long in
    let at_first : get_or two (2 * count) [] ≡ first =
    get_or-set_other one (2 * count + 1) (2 * count) second [] (omega arith) ∙ get_or-set_same cells (2 * count) first [] (omega arith) in
    let at_second : get_or two (2 * count + 1) [] ≡ second = get_or-set_same one (2 * count + 1) second [] (omega arith) in
    let elsewhere : (i : ℕ) → i ≢ 2 * count → i ≢ 2 * count + 1 → get_or two i [] ≡ get_or cells i [] = λ i nf ns.
    get_or-set_other one (2 * count + 1) i second [] ns ∙ get_or-set_other cells (2 * count) i first [] nf in
    record {
      long = length-set one (2 * count + 1) second ∙ long_one;
      rows = λ p r d h pair. elim (cases_eq p count) [
        | inl e ↦
            ap (λ q. get_or two (2 * q + r) []) e
            ∙ both_rows code c two (2 * count) (at_first ∙ is_first) (at_second ∙ is_second) r pair
            ∙ ap (λ x. code_row code x r) (sym (cloud d) ∙ ap (λ q. (get_or pieces q d).cloud) (sym e))
        | inr ne ↦ elsewhere (2 * p + r) (λ e. ne (omega arith)) (λ e. ne (omega arith)) ∙ filled.rows p r d (omega arith) pair
      ];
      below = λ i k past. ap (λ xs. get_or xs k 0) (elsewhere i (omega arith) (omega arith)) ∙ filled.below i k (omega arith);
      right = λ i k past. elim (cases_eq i (2 * count)) [
        | inl e ↦ ap (λ j. get_or (get_or two j []) k 0) e ∙ ap (λ xs. get_or xs k 0) (at_first ∙ is_first) ∙ kept.zero_past (2 * c + 0) k past
        | inr nf ↦ elim (cases_eq i (2 * count + 1)) [
          | inl e ↦ ap (λ j. get_or (get_or two j []) k 0) e ∙ ap (λ xs. get_or xs k 0) (at_second ∙ is_second) ∙ kept.zero_past (2 * c + 1) k past
          | inr ns ↦ ap (λ xs. get_or xs k 0) (elsewhere i nf ns) ∙ filled.right i k past
        ]
      ];
    }
