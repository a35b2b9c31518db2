use Rattle.std.proofs.Common.{rules}
use Rattle.std.proofs.lemmas.List.FromFn.{fill_by_all}
use Rattle.nc_mix.specs.Regenerating.{factor_at}
use Rattle.nc_mix.proofs.regenerating.factors_of.Goals as goal

pub returns : goal.returns
returns c = fill_by_all (factor_at c.args.plan.now c.args.lost c.args.r) c.loop-k.row 16 0 c.loop-k.invariant.0 (search rules)
