use Rattle.std.proofs.Common.{[], arith}
use Rattle.std.proofs.lemmas.List.FromFn.{fill_by_all}
use Rattle.nc_code.proofs.FilledRows.{all_filled}
use Rattle.nc_search.specs.Starts.{start_entry, start_row, start_code}
use Rattle.nc_search.proofs.Rows.{natives_past, clouds_past}
use Rattle.nc_search.proofs.starting.start_code.Goals as goal

pub new-requires-clause-zero_past : goal.new-requires-clause-zero_past
new-requires-clause-zero_past c =
    natives_past c.args.width c.args.block.now c.loop-i.rows (all_filled (start_entry c.args.width c.args.block.now) _ _ (omega arith) c.loop-i.invariant)

pub new-requires-clause-rows_past : goal.new-requires-clause-rows_past
new-requires-clause-rows_past c =
    clouds_past c.args.width c.args.block.now c.loop-i.rows (all_filled (start_entry c.args.width c.args.block.now) _ _ (omega arith) c.loop-i.invariant)

pub returns-clause-code : goal.returns-clause-code
unfolding start_code
returns-clause-code c =
    let all = all_filled (start_entry c.args.width c.args.block.now) c.loop-i.i c.loop-i.rows (omega arith) c.loop-i.invariant in
    rw (c.new.ensures.parts, fill_by_all (start_row c.args.width c.args.block.now) c.loop-i.rows 20 [] all.0 all.1)
