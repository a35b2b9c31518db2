use Rattle.std.proofs.Common.{arith, sym, subst, ◌∙◌}
use Rattle.nc_bytes.proofs.Numbers.{bytes_8-same}
use Rattle.nc_meta.specs.Parts.{IsGeneration}
use Rattle.nc_meta.proofs.MetaParts.{gone_shape, gone_of}
use Rattle.nc_meta.proofs.gone.read_gone.Goals as goal

pub returns-then-payload-ne13-clause-none : goal.returns-then-payload-ne13-clause-none
returns-then-payload-ne13-clause-none c = λ g s. c.if-payload-ne13.true (gone_shape _ g s.is_spelling).total

pub returns-then-not-is_same-clause-none : goal.returns-then-not-is_same-clause-none
returns-then-not-is_same-clause-none c = λ g s.
    absurd (cc (c.is_same.ensures.1 (c.part_of.ensures ∙ (gone_shape _ g s.is_spelling).head), c.if-not-is_same.true))

pub returns-then-is_generation-clause-some : goal.returns-then-is_generation-clause-some
returns-then-is_generation-clause-some c = record {
  fits = c.is_generation.ensures.0 c.if-is_generation.true;
  is_spelling = gone_of _ _ (record {
    total = c.if-payload-ne13.false;
    head = sym c.part_of.ensures ∙ c.is_same.ensures.0 c.if-not-is_same.false;
    generation = sym c.u64_at-generation.ensures;
  });
}

pub returns-else-is_generation-clause-none : goal.returns-else-is_generation-clause-none
returns-else-is_generation-clause-none c = λ g s.
    let same = bytes_8-same _ g c.u64_at-generation.type_inv (omega (arith, s.fits.1)) (c.u64_at-generation.ensures ∙ (gone_shape _ g s.is_spelling).generation) in
    absurd (cc (c.is_generation.ensures.1 (subst IsGeneration (sym same) s.fits), c.if-is_generation.false))
