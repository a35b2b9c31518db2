-- The square of the rows of all clouds but two, against the rows of these clouds.
use Rattle.std.proofs.Common.{◌≡◌, ◌≢◌, ℕ, ◌+◌, ◌-◌, ◌*◌, ◌/◌, ◌%◌, ◌<◌, List, sym, ap, ◌∙◌, subst, arith, inl, inr}
use Rattle.std.proofs.lemmas.Bool.{cases_lt}
use Rattle.std.proofs.lemmas.Bool.Decides.{nat_tests}
use Rattle.nc_gf256.specs.Rows.{dot, Independent}
use Rattle.nc_gf256.specs.Width.{native_count}
use Rattle.nc_code.specs.Parts.{CodeParts}
use Rattle.nc_code.specs.Codes.{code_row, IsPairMds}
use Rattle.nc_matrix.specs.Cells.{row_of}
use Rattle.nc_matrix.specs.Inverted.{IsRowAmong, IsKernel}
use Rattle.nc_matrix.specs.declared.square.Square.{Square}
use Rattle.nc_mds.specs.Verdicts.{ShowsDependent, other_cloud}
use Rattle.nc_mds.specs.Others.{AreOthers}

-- the cloud at a position is neither a nor b
record IsOther (n a b c : ℕ) : Type 0 where
  in_width : c < n
  not_first : c ≢ a
  not_second : c ≢ b

other_is : (n a b p : ℕ) → a < b → b < n → p < n - 2 → IsOther n a b (other_cloud a b p)
other_is n a b p less within low = record {
  in_width = grind (arith, nat_tests);
  not_first = grind (arith, nat_tests);
  not_second = grind (arith, nat_tests);
}

-- each cloud other than a and b has a position
position_is : (n a b c : ℕ) → a < b → b < n → IsOther n a b c → (p : ℕ) × (p < n - 2) × (other_cloud a b p ≡ c)
position_is n a b c less within is = elim (cases_lt c a) [
  | inl low ↦ (c, omega arith, grind (arith, nat_tests))
  | inr high ↦ elim (cases_lt c b) [
    | inl middle ↦ (c - 1, omega arith, grind (arith, nat_tests))
    | inr top ↦ (c - 2, omega arith, grind (arith, nat_tests))
  ]
]

-- where the square's rows are independent, the pair may be lost
pub pair_mds : (code : CodeParts) (a b : ℕ) (square : Square) → a < b → b < code.width → AreOthers code a b square
    → Independent square.size (IsRowAmong square.size square.cells) → IsPairMds code a b
pair_mds code a b square less within are free =
    let n = native_count code.width in
    let same : Independent n (IsRowAmong n square.cells) = subst (λ (k : ℕ). Independent k (IsRowAmong k square.cells)) are.size free in
    record {
      free = record {
        only_zeros = λ v bytes sent i below. same.only_zeros v bytes (λ row is. sent row (
            let other = other_is code.width a b (is.0 / 2) less within (omega arith) in
            record {
              cloud = other_cloud a b (is.0 / 2);
              place = is.0 % 2;
              in_width = other.in_width;
              in_pair = omega arith;
              not_first = other.not_first;
              not_second = other.not_second;
              is_row = is.2 ∙ are.rows is.0 is.1;
            })) i below;
      };
    }

-- the row of a cloud at a position stands in the square
sent_row : (code : CodeParts) (a b : ℕ) (square : Square) (v : List ℕ) → AreOthers code a b square → IsKernel (native_count code.width) square.cells v
    → (p : ℕ) → p < code.width - 2 → (r : ℕ) → r < 2 → (row : List ℕ) → row ≡ code_row code (other_cloud a b p) r → dot (native_count code.width) row v ≡ 0
sent_row code a b square v are kernel p low r pair row is =
    let cloud : (2 * p + r) / 2 ≡ p = omega arith in
    let place : (2 * p + r) % 2 ≡ r = omega arith in
    let row_is : row_of square.cells (2 * p + r) ≡ code_row code (other_cloud a b p) r =
    are.rows (2 * p + r) (omega arith)
    ∙ ap (λ (c : ℕ). code_row code (other_cloud a b c) ((2 * p + r) % 2)) cloud
    ∙ ap (λ (s : ℕ). code_row code (other_cloud a b p) s) place in
    ap (λ (x : List ℕ). dot (native_count code.width) x v) (is ∙ sym row_is)
    ∙ kernel.sent (2 * p + r) (omega arith)

-- a vector that the square's rows send to 0 shows that the pair may not be lost
pub pair_shown : (code : CodeParts) (a b : ℕ) (square : Square) (v : List ℕ) → a < b → b < code.width → AreOthers code a b square
    → IsKernel square.size square.cells v → ShowsDependent code a b v
pair_shown code a b square v less within are kernel =
    let n = native_count code.width in
    let same : IsKernel n square.cells v = subst (λ (k : ℕ). IsKernel k square.cells v) are.size kernel in
    record {
      place = same.place;
      within = same.within;
      not_zero = same.not_zero;
      zero_past = same.zero_past;
      bytes = same.bytes;
      sent = λ row is.
          let found = position_is code.width a b is.cloud less within (record { in_width = is.in_width; not_first = is.not_first; not_second = is.not_second }) in
          sent_row code a b square v are same found.0 found.1 is.place is.in_pair row (is.is_row ∙ ap (λ (c : ℕ). code_row code c is.place) (sym found.2));
    }
