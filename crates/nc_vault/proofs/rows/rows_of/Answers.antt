use Rattle.std.proofs.Common.{◌<◌, ℕ, Option, None, length, slice_index_or, sym, arith}
use Rattle.std.proofs.lemmas.List.{get_or_default}
use Rattle.nc_vault.proofs.RowLaws.{rows_all, rows_more, rows_none}
use Rattle.nc_vault.proofs.rows.rows_of.Goals as goal

pub loop-k-init : goal.loop-k-init
loop-k-init c = rows_none c.args.names.now c.args.lens.now c.new-rows.result c.new-rows.ensures

pub loop-k-preserved : goal.loop-k-preserved
loop-k-preserved c =
    let low : c.loop-k.k < length c.args.names.now = omega (arith, c.loop-k-test.true, c.loop-k.auto.k-end) in
    let within : c.loop-k.k < length c.args.lens.now = omega (arith, low, c.requires.same) in
    let len : Option ℕ = slice_index_or c.args.lens.now c.loop-k.k None in
    rows_more c.args.names.now c.args.lens.now c.loop-k.k c.loop-k.rows c.push_row.new.rows c.index-names-k.result len low within (sym c.index-names-k.is)
    (get_or_default c.args.lens.now c.loop-k.k len None within) c.in_ok-push_row.ensures c.loop-k.invariant

pub returns : goal.returns
returns c = rows_all c.args.names.now c.args.lens.now c.loop-k.k c.loop-k.rows c.loop-k-test.false c.loop-k.invariant
