use Rattle.std.proofs.Common.{slice_index, sym, ap, ◌∙◌, arith, inl, inr}
use Rattle.std.proofs.lemmas.Bool.{cases_lt}
use Rattle.nc_gf256.specs.Field.{mul}
use Rattle.nc_gf256.proofs.FieldLaws.{zero_mul_any}
use Rattle.nc_gf256.proofs.Sums.{total_none}
use Rattle.nc_matrix.specs.Cells.{entry}
use Rattle.nc_matrix.proofs.apply.Goals as goal

pub returns : goal.returns
returns c i = elim (cases_lt i c.args.a.now.size) [
  | inl lt ↦ c.loop-i.invariant.done i (omega arith)
  | inr past ↦
      c.loop-i.invariant.ahead i (omega arith)
      ∙ sym (total_none c.args.a.now.size (λ k. mul (entry c.args.a.now.cells i k) (slice_index c.args.v.now k))
      (λ k _. ap (λ x. mul x (slice_index c.args.v.now k)) (c.args.a.now.zero_below i k past) ∙ zero_mul_any (slice_index c.args.v.now k)))
]
