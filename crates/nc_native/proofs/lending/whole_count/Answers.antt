use Rattle.std.proofs.Common.{◌∙◌, ◌≤◌, ◌*◌, ◌/◌, max, ap, sym, subst}
use Rattle.nc_gf256.specs.Width.{native_count}
use Rattle.nc_native.specs.Native.{chunk_size}
use Rattle.nc_native.proofs.Whole.{whole_few, whole_fit}
use Rattle.nc_native.proofs.lending.whole_count.Goals as goal

pub returns-clause-count : goal.returns-clause-count
returns-clause-count c = ap (λ m. c.args.len / m) (c.max.ensures ∙ ap (λ s. max s 1) c.chunk_size.ensures)

pub returns-clause-few : goal.returns-clause-few
returns-clause-few c = subst (λ q. q ≤ native_count c.args.width) (sym (returns-clause-count c)) (whole_few c.args.len c.args.width c.requires.wide)

pub returns-clause-fits : goal.returns-clause-fits
returns-clause-fits c =
    subst (λ q. q * chunk_size c.args.len c.args.width ≤ c.args.len) (sym (returns-clause-count c)) (whole_fit c.args.len c.args.width)
