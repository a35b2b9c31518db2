use Rattle.std.proofs.Common.{rules}
use Rattle.std.proofs.lemmas.List.FromFn.{fill_by_all}
use Rattle.nc_search.specs.Starts.{start_entry}
use Rattle.nc_search.proofs.starting.start_row.Goals as goal

pub returns : goal.returns
returns c = fill_by_all (start_entry c.args.width c.args.block.now c.args.i) c.loop-k.row 16 0 c.loop-k.invariant.0 (search rules)
