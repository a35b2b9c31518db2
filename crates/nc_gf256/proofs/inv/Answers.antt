use Rattle.std.proofs.Common.{arith, ap, ◌∙◌, ◌-◌, slice_index}
use Rattle.nc_gf256.specs.declared.tables.TheConstants.{POWERS}
use Rattle.nc_gf256.specs.Field.{mul}
use Rattle.nc_gf256.proofs.PowerLemmas.{inverse_read}
use Rattle.nc_gf256.proofs.inv.Goals as goal

pub returns-clause-inverse : goal.returns-clause-inverse
returns-clause-inverse c =
    ap (mul c.args.a) (c.power.ensures ∙ ap (λ i. slice_index POWERS (255 - i)) c.logarithm.ensures)
    ∙ inverse_read c.args.a (omega arith) c.if-a-eq0.false
