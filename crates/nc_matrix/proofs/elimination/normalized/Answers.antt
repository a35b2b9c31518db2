use Rattle.std.proofs.Common.{◌∙◌}
use Rattle.nc_gf256.proofs.FieldLaws.{mul_comm}
use Rattle.nc_matrix.specs.Cells.{entry}
use Rattle.nc_matrix.proofs.elimination.normalized.Goals as goal

pub returns-clause-normal : goal.returns-clause-normal
returns-clause-normal c = record {
  multiple = c.in-Some.t;
  byte = c.scaled.ensures.byte;
  scaled = c.scaled.ensures.product;
  one =
      c.scaled.ensures.product.here c.args.c
      ∙ mul_comm c.in-Some.t (entry c.args.rows.now c.args.c c.args.c) c.scaled.ensures.byte (c.requires.bytes c.args.c c.args.c c.requires.within)
      ∙ c.in-Some.ensures.inverse;
}
