use Rattle.std.proofs.Common.{rules}
use Rattle.std.proofs.lemmas.List.FromFn.{fill_by_all}
use Rattle.nc_search.specs.Repairs.{turned_choice, turned_base}
use Rattle.nc_search.proofs.mending.turned_base.Goals as goal

pub returns-clause-base : goal.returns-clause-base
unfolding turned_base
returns-clause-base c = fill_by_all (turned_choice c.args.lost c.args.plan.now) c.loop-t.base 10 0 c.loop-t.invariant.0 (search rules)
