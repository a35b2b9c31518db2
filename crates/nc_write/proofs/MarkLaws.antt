-- The digests of chunks.
use Rattle.std.proofs.Common.{◌≡◌, ◌<◌, ◌≤◌, ◌++◌, ◌+◌, ◌-◌, ℕ, List, [], length, get_or, slice_index, drop, replicate, refl, sym, ap, subst, ◌∙◌, arith, inl, inr}
use Rattle.std.proofs.lemmas.Grind.{common_steps}
use Rattle.std.proofs.lemmas.List.{get_or-append_right, get_or-drop, get_or-replicate}
use Rattle.std.proofs.lemmas.Bool.{cases_lt}
use Rattle.std.proofs.Math.ListN.{get_or-eq_default}
use Rattle.sha2.proofs.Facts256.{length-sha256}
use Rattle.nc_bytes.specs.Bytes.{AreBytes}
use Rattle.nc_code.specs.Parts.{IsTable}
use Rattle.nc_write.specs.Marks.{AreDigests, AreMarks}

-- what isn't stored is 0
pub zero_at : (n k : ℕ) → slice_index (replicate n 0) k ≡ 0
zero_at n k = grind (arith, common_steps)

-- digests in front of zeros
module _ (chunks front : List (List ℕ)) (few : length chunks ≤ 20) (of : AreDigests chunks front) where
  abbrev zero_row : List ℕ
  zero_row = replicate 32 0

  abbrev zeros : List (List ℕ)
  zeros = replicate 20 zero_row

  abbrev table : List (List ℕ)
  table = front ++ drop (length chunks) zeros

  table_len : length table ≡ 20
  table_len = let long = of.same_length in grind (arith, common_steps)

  in_front : (i : ℕ) → i < length chunks → get_or table i [] ≡ get_or front i []
  in_front i low = let long = of.same_length in grind (arith, common_steps)

  past_front : (i : ℕ) → length chunks ≤ i → i < 20 → get_or table i [] ≡ replicate 32 0
  past_front i high low =
      let long : length front ≡ length chunks = of.same_length in
      get_or-append_right front (drop (length chunks) zeros) (length front) i [] refl (omega (arith, long, high)) ∙ get_or-drop (length chunks) zeros (i - length front) []
      ∙ get_or-replicate 20 (length chunks + (i - length front)) zero_row [] (omega (arith, long, high, low))

  pub digests_in_front : AreMarks chunks table
  digests_in_front = record {
    count = table_len;
    digests = λ i low. in_front i low ∙ of.digests i low;
    zeros = past_front;
    bytes = λ i low. subst AreBytes (sym (in_front i low)) (of.bytes i low);
  }

module _ (chunks marks : List (List ℕ)) (of : AreMarks chunks marks) where
  mark_len : (i : ℕ) → i < 20 → length (get_or marks i []) ≡ 32
  mark_len i l = elim (cases_lt i (length chunks)) [
    | inl low ↦ ap length (of.digests i low) ∙ length-sha256 _
    | inr high ↦ ap length (of.zeros i high l) ∙ refl
  ]

  pub zeros_past : (i k : ℕ) → length chunks ≤ i → slice_index (get_or marks i []) k ≡ 0
  zeros_past i k high = elim (cases_lt i 20) [
    | inl low ↦ ap (λ r. slice_index r k) (of.zeros i high low) ∙ zero_at 32 k
    | inr past ↦ ap (λ r. slice_index r k) (get_or-eq_default marks [] (omega (arith, of.count)))
  ]

  mark_bytes : (i : ℕ) → AreBytes (get_or marks i [])
  mark_bytes i = elim (cases_lt i (length chunks)) [
    | inl low ↦ of.bytes i low
    | inr high ↦ λ k. rw (zeros_past i k high) (omega arith)
  ]

  pub marks_shape : IsTable 20 32 marks
  marks_shape = record { count = of.count; widths = mark_len; bytes = mark_bytes }
