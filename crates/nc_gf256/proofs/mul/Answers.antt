use Rattle.std.proofs.Common.{arith, sym, ap, ◌∙◌, ◌+◌, slice_index}
use Rattle.nc_gf256.specs.declared.tables.TheConstants.{POWERS, LOGARITHMS}
use Rattle.nc_gf256.specs.Field.{mul}
use Rattle.nc_gf256.proofs.FieldLaws.{zero_mul_any, mul_zero}
use Rattle.nc_gf256.proofs.PowerLemmas.{product_read}
use Rattle.nc_gf256.proofs.mul.Goals as goal
use Rattle.nc_gf256.proofs.mul.Goals.{then-a-eq0-via-then-a-eq0, then-a-eq0-via-else-a-eq0+then-b-eq0}

pub returns-then-a-eq0 : goal.returns-then-a-eq0
returns-then-a-eq0 c = elim c.then-a-eq0.branch [
  | then-a-eq0-via-then-a-eq0 w ↦ sym (ap (λ x. mul x c.args.b) w.if-a-eq0.true ∙ zero_mul_any c.args.b)
  | then-a-eq0-via-else-a-eq0+then-b-eq0 w ↦ sym (ap (mul c.args.a) w.if-b-eq0.true ∙ mul_zero c.args.a)
]

pub returns : goal.returns
returns c =
    c.power.ensures
    ∙ ap (λ i. slice_index POWERS (i + c.logarithm-2.result)) c.logarithm.ensures
    ∙ ap (λ j. slice_index POWERS (slice_index LOGARITHMS c.args.a + j)) c.logarithm-2.ensures
    ∙ product_read c.args.a c.args.b (omega arith) (omega arith) c.if-a-eq0.false c.if-b-eq0.false
