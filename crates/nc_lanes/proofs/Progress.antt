-- Slices that are worked through from the front: 32 places more, and all places.
use Rattle.std.proofs.Common.{◌≡◌, ℕ, ◌+◌, ◌-◌, ◌<◌, ◌≤◌, List, length, slice_index, sym, ap, ◌∙◌, arith, inl, inr, bit_xor}
use Rattle.std.proofs.lemmas.Bool.{cases_lt}
use Rattle.std.proofs.lemmas.List.{get_or_past}
use Rattle.nc_gf256.specs.Field.{mul}
use Rattle.nc_gf256.proofs.FieldLaws.{mul_zero}
use Rattle.nc_lanes.specs.Lanes.{Stores, IsDoneTo, scaled, plus_scaled}

pub lanes_done : (wanted : ℕ → ℕ) (at next : ℕ) (v old mid new : List ℕ) → next ≡ at + 32 → IsDoneTo at wanted old mid → Stores at v mid new
    → ((k : ℕ) → k < 32 → slice_index v k ≡ wanted (at + k)) → IsDoneTo next wanted old new
lanes_done wanted at next v old mid new e h s lanes = record {
  done = λ i lt. elim (cases_lt i at) [
    | inl below ↦ s.below i below ∙ h.done i below
    | inr above ↦
        let place : at + (i - at) ≡ i = omega arith in
        ap (slice_index new) (sym place) ∙ s.within (i - at) (omega arith) ∙ lanes (i - at) (omega arith) ∙ ap wanted place
  ];
  rest = λ i le. s.above i (omega arith) ∙ h.rest i (omega arith);
}

pub all_done : (wanted : ℕ → ℕ) (end : ℕ) (old new : List ℕ) → IsDoneTo end wanted old new → length old ≤ end
    → ((i : ℕ) → length old ≤ i → wanted i ≡ 0) → (i : ℕ) → slice_index new i ≡ wanted i
all_done wanted end old new h whole past i = elim (cases_lt i end) [
  | inl below ↦ h.done i below
  | inr above ↦ h.rest i above ∙ get_or_past old i 0 (omega arith) ∙ sym (past i (omega arith))
]

pub scaled_past : (c : ℕ) (dst : List ℕ) (i : ℕ) → length dst ≤ i → scaled c dst i ≡ 0
scaled_past c dst i le = ap (mul c) (get_or_past dst i 0 le) ∙ mul_zero c

pub plus_scaled_past : (c : ℕ) (dst src : List ℕ) → length src ≡ length dst → (i : ℕ) → length dst ≤ i → plus_scaled c dst src i ≡ 0
plus_scaled_past c dst src same i le =
    ap (λ x. bit_xor x (mul c (slice_index src i))) (get_or_past dst i 0 le)
    ∙ ap (bit_xor 0) (ap (mul c) (get_or_past src i 0 (omega arith)) ∙ mul_zero c)
