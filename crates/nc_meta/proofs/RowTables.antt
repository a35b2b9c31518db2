-- Rows as they are read.
use Rattle.std.proofs.Common.{arith, inl, inr, ap, ◌∙◌}
use Rattle.std.proofs.Math.Nat.{mul-le-mul_right, suc-mul}
use Rattle.std.proofs.lemmas.Bool.{cases_lt}
use Rattle.std.proofs.lemmas.List.{get_or_past}
use Rattle.std.specs.Prelude.{ℕ, ◌≡◌, ◌+◌, ◌*◌, ◌<◌, ◌≤◌, suc, List, [], length, slice_index, slice_index_or}
use Rattle.nc_bytes.specs.Bytes.{padded, AreBytes, part}
use Rattle.nc_bytes.proofs.Places.{length-part, part_bytes}
use Rattle.nc_code.specs.Parts.{IsTable}
use Rattle.nc_meta.proofs.Padding.{length-padded, padded_below, padded_past}

-- twenty rows of N bytes: the first `count` have `size` bytes from the place `at` on, the others none
pub record AreRead (N at count size : ℕ) (bytes : List ℕ) (table : List (List ℕ)) : Type 0 where
  pub len : length table ≡ 20
  pub rows : (i : ℕ) → i < count → slice_index_or table i [] ≡ padded N (part (at + i * size) size bytes)
  pub rest : (i : ℕ) → count ≤ i → i < 20 → slice_index_or table i [] ≡ padded N []

-- where the rows stand in bytes that are long enough
pub record HaveRoom (N at count size : ℕ) (bytes : List ℕ) : Type 0 where
  pub rows : count ≤ 20
  pub sizes : size ≤ N
  pub fits : at + count * size ≤ length bytes

row_fits : (i at count size : ℕ) (bytes : List ℕ) → i < count → at + count * size ≤ length bytes → at + i * size + size ≤ length bytes
row_fits i at count size bytes l fits =
    let more : suc i * size ≤ count * size = mul-le-mul_right size l in
    omega (arith, suc-mul i size)

pub length-row : (N at count size : ℕ) (bytes : List ℕ) → HaveRoom N at count size bytes → (i : ℕ) → i < count
    → length (part (at + i * size) size bytes) ≡ size
length-row N at count size bytes room i l = length-part (at + i * size) size bytes (row_fits i at count size bytes l room.fits)

past_end : (i : ℕ) (table : List (List ℕ)) → length table ≡ 20 → 20 ≤ i → slice_index_or table i [] ≡ []
past_end i table len past = get_or_past table i [] (omega arith)

pub table_read : (N at count size : ℕ) (bytes : List ℕ) (table : List (List ℕ)) → HaveRoom N at count size bytes → AreBytes bytes
    → AreRead N at count size bytes table → IsTable 20 N table
table_read N at count size bytes table room are read = record {
  count = read.len;
  widths = λ i l. elim (cases_lt i count) [
    | inl low ↦
        let e = length-row N at count size bytes room i low in
        ap length (read.rows i low) ∙ length-padded N (part (at + i * size) size bytes) (omega (arith, e, room.sizes))
    | inr high ↦ ap length (read.rest i high l) ∙ length-padded N [] (omega arith)
  ];
  bytes = λ i. elim (cases_lt i count) [
    | inl low ↦ let e = read.rows i low in rw e (padded_below 256 N (part (at + i * size) size bytes) (omega arith) (part_bytes (at + i * size) size bytes are))
    | inr high ↦ elim (cases_lt i 20) [
      | inl within ↦ let e = read.rest i high within in rw e (padded_below 256 N [] (omega arith) (λ k. omega arith))
      | inr past ↦ let e = past_end i table read.len past in rw e (λ k. omega arith)
    ]
  ];
}

pub rows_past : (N at count size : ℕ) (bytes : List ℕ) (table : List (List ℕ)) → AreRead N at count size bytes table
    → (i k : ℕ) → count ≤ i → slice_index (slice_index_or table i []) k ≡ 0
rows_past N at count size bytes table read i k high = elim (cases_lt i 20) [
  | inl within ↦ ap (λ row. slice_index row k) (read.rest i high within) ∙ padded_past N [] k (omega arith)
  | inr past ↦ ap (λ row. slice_index row k) (past_end i table read.len past)
]

pub zero_past : (N at count size : ℕ) (bytes : List ℕ) (table : List (List ℕ)) → HaveRoom N at count size bytes
    → AreRead N at count size bytes table → (i k : ℕ) → size ≤ k → slice_index (slice_index_or table i []) k ≡ 0
zero_past N at count size bytes table room read i k past = elim (cases_lt i count) [
  | inl low ↦
      let e = length-row N at count size bytes room i low in
      ap (λ row. slice_index row k) (read.rows i low) ∙ padded_past N (part (at + i * size) size bytes) k (omega (arith, e))
  | inr high ↦ rows_past N at count size bytes table read i k high
]
