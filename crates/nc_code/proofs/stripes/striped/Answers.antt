use Rattle.std.proofs.Common.{[], arith}
use Rattle.std.proofs.lemmas.List.FromFn.{fill_by_all}
use Rattle.nc_code.specs.Striped.{striped_row, striped_code}
use Rattle.nc_code.proofs.FilledRows.{all_filled}
use Rattle.nc_code.proofs.StripedParts.{entry_of, natives_past, clouds_past}
use Rattle.nc_code.proofs.stripes.striped.Goals as goal

pub new-requires-clause-zero_past : goal.new-requires-clause-zero_past
new-requires-clause-zero_past c =
    natives_past c.args.width c.loop-row.rows (all_filled (entry_of c.args.width) _ _ (omega arith) c.loop-row.invariant)

pub new-requires-clause-rows_past : goal.new-requires-clause-rows_past
new-requires-clause-rows_past c =
    clouds_past c.args.width c.loop-row.rows c.requires.wide (all_filled (entry_of c.args.width) _ _ (omega arith) c.loop-row.invariant)

pub returns-clause-code : goal.returns-clause-code
unfolding striped_code
returns-clause-code c =
    let all = all_filled (entry_of c.args.width) c.loop-row.row c.loop-row.rows (omega arith) c.loop-row.invariant in
    rw (c.new.ensures.parts, fill_by_all (striped_row c.args.width) c.loop-row.rows 20 [] all.0 all.1)
