use Rattle.std.proofs.Common.{arith, ℕ, List, ◌*◌, sym, ap, subst, ◌∙◌}
use Rattle.std.proofs.lemmas.List.{take_rest}
use Rattle.nc_bytes.proofs.Numbers.{bytes_8-same}
use Rattle.nc_bytes.specs.Bytes.{padded, AreBytes}
use Rattle.nc_gf256.specs.Width.{native_count}
use Rattle.nc_code.specs.Parts.{CodeParts}
use Rattle.nc_meta.specs.Parts.{IsGeneration}
use Rattle.nc_meta.specs.Metas.{SpellsWitnesses}
use Rattle.nc_meta.proofs.RowTables.{AreRead}
use Rattle.nc_meta.proofs.Padding.{below_take, below_within}
use Rattle.nc_meta.proofs.MetaParts.{live_shape, tail_at}
use Rattle.nc_meta.proofs.LiveParts.{live_read}
use Rattle.nc_meta.proofs.live.read_live.Goals as goal

pub returns-then-payload-tail_at-clause-none : goal.returns-then-payload-tail_at-clause-none
returns-then-payload-tail_at-clause-none c = λ m s. absurd (omega (arith, (live_shape _ _ m c.requires.narrow s).long))

pub returns-then-not-is_same-clause-none : goal.returns-then-not-is_same-clause-none
returns-then-not-is_same-clause-none c = λ m s.
    absurd (cc (c.is_same.ensures.1 (c.part_of.ensures ∙ (live_shape _ _ m c.requires.narrow s).head), c.if-not-is_same.true))

pub returns-then-not-is_generation-clause-none : goal.returns-then-not-is_generation-clause-none
returns-then-not-is_generation-clause-none c = λ m s.
    let shape = live_shape _ _ m c.requires.narrow s in
    let same = bytes_8-same _ m.generation c.u64_at-generation.type_inv (omega (arith, s.fits.generation.1)) (c.u64_at-generation.ensures ∙ shape.generation) in
    absurd (cc (c.is_generation.ensures.1 (subst IsGeneration (sym same) s.fits.generation), c.if-not-is_generation.true))

pub returns-then-len-gt-LONGEST-clause-none : goal.returns-then-len-gt-LONGEST-clause-none
returns-then-len-gt-LONGEST-clause-none c = λ m s.
    let shape = live_shape _ _ m c.requires.narrow s in
    let same = bytes_8-same _ m.len c.u64_at-len.type_inv (omega (arith, s.fits.len)) (c.u64_at-len.ensures ∙ shape.len) in
    absurd (omega (arith, same, s.fits.len))

pub returns-then-not-are_bits-clause-none : goal.returns-then-not-are_bits-clause-none
returns-then-not-are_bits-clause-none c = λ m s.
    let shape = live_shape _ _ m c.requires.narrow s in
    let e = c.part_of-slots.ensures ∙ shape.slots in
    absurd (cc (c.are_bits.ensures.1 (λ i l. rw e (below_take 2 _ m.slots (omega arith) s.fits.slots i)), c.if-not-are_bits.true))

pub returns-in_err-witnesses-clause-none : goal.returns-in_err-witnesses-clause-none
returns-in_err-witnesses-clause-none c = rw c.from_residual.ensures (λ m s.
    let shape = live_shape _ _ m c.requires.narrow s in
    c.in_err-witnesses.ensures.none m.witnesses (record { fits = s.fits.witnesses; is_spelling = c.part_of-2.ensures ∙ take_rest c.args.payload.now (tail_at c.args.width) ∙ shape.tail }))

pub returns-clause-some : goal.returns-clause-some
returns-clause-some c =
    let are : AreBytes c.args.payload.now = λ i. omega (arith, c.type_inv.payload i) in
    let bits = below_within 2 _ (omega arith) (c.are_bits.ensures.0 c.if-not-are_bits.false) in
    let rows : AreRead 16 21 (2 * c.args.width) (native_count c.args.width) c.args.payload.now c.rows_at.result =
    record { len = c.rows_at.ensures.len; rows = c.rows_at.ensures.rows; rest = c.rows_at.ensures.rest } in
    let R : List (List ℕ) → Type 0 = AreRead 16 21 (2 * c.args.width) (native_count c.args.width) c.args.payload.now in
    let W : List ℕ → Type 0 = λ tail. SpellsWitnesses c.args.width tail c.in_ok-witnesses.witnesses in
    live_read _ _ _ (record {
      narrow = c.requires.narrow;
      are = are;
      long = c.if-payload-tail_at.false;
      head = sym c.part_of.ensures ∙ c.is_same.ensures.0 c.if-not-is_same.false;
      generation = c.is_generation.ensures.0 c.if-not-is_generation.false;
      generation_at = c.u64_at-generation.ensures;
      len = c.if-len-gt-LONGEST.false;
      len_at = c.u64_at-len.ensures;
      width = ap (λ (k : CodeParts). k.width) c.new.ensures.parts;
      code = c.new.ensures.kept;
      rows = subst R (sym (ap (λ (k : CodeParts). k.rows) c.new.ensures.parts)) rows;
      bits = rw (← c.part_of-slots.ensures) bits;
      slots = c.padded.ensures ∙ ap (padded 10) c.part_of-slots.ensures;
      marks = record { len = c.rows_at-2.ensures.len; rows = c.rows_at-2.ensures.rows; rest = c.rows_at-2.ensures.rest };
      witnesses = subst W (c.part_of-2.ensures ∙ take_rest c.args.payload.now (tail_at c.args.width)) c.in_ok-witnesses.ensures.some;
    })
