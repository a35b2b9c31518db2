use Rattle.std.proofs.Common.{arith, [], ◌∷◌, ◌+◌, refl}
use Rattle.nc_name.proofs.KeyTexts.{is_meta_text, is_chunk_text, key_text_long}
use Rattle.nc_name.proofs.reading.likely.Goals as goal

pub returns-then-text-lt4-clause-is : goal.returns-then-text-lt4-clause-is
returns-then-text-lt4-clause-is c = λ key is e. absurd (omega (arith, key_text_long _ key e))

pub returns-in_err-name-clause-is : goal.returns-in_err-name-clause-is
returns-in_err-name-clause-is c = λ key is e.
    let t = is_meta_text _ key is e c.if-text-eq109.true in
    let found = c.name_within.ensures.is (109 ∷ 45 ∷ []) t.name (45 ∷ (48 + t.slot) ∷ []) refl refl t.valid t.parts in
    absurd (cc (found, c.in_err-name.was))

pub returns-in_ok-name-clause-is : goal.returns-in_ok-name-clause-is
returns-in_ok-name-clause-is c = λ key is e.
    let t = is_meta_text _ key is e c.if-text-eq109.true in
    let found = c.name_within.ensures.is (109 ∷ 45 ∷ []) t.name (45 ∷ (48 + t.slot) ∷ []) refl refl t.valid t.parts in
    let slot = c.bit_at-slot.ensures.is t.slot t.small t.slot_at in
    cc (found, slot, c.in_ok-name.was, t.is_key)

pub returns-in_err-name-2-clause-is : goal.returns-in_err-name-2-clause-is
returns-in_err-name-2-clause-is c = λ key is e.
    let t = is_chunk_text _ key is e c.if-text-eq109.false in
    let found = c.name_within-else-text-eq109.ensures.is (99 ∷ 45 ∷ []) t.name (45 ∷ (48 + t.slot) ∷ 45 ∷ (48 + t.row) ∷ []) refl refl t.valid t.parts in
    absurd (cc (found, c.in_err-name-2.was))

pub returns-in_ok-name-2-clause-is : goal.returns-in_ok-name-2-clause-is
returns-in_ok-name-2-clause-is c = λ key is e.
    let t = is_chunk_text _ key is e c.if-text-eq109.false in
    let found = c.name_within-else-text-eq109.ensures.is (99 ∷ 45 ∷ []) t.name (45 ∷ (48 + t.slot) ∷ 45 ∷ (48 + t.row) ∷ []) refl refl t.valid t.parts in
    let slot = c.bit_at-slot-else-text-eq109.ensures.is t.slot t.small t.slot_at in
    let row = c.bit_at-row.ensures.is t.row t.row_small t.row_at in
    cc (found, slot, row, c.in_ok-name-2.was, t.is_key)
