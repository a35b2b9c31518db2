use Rattle.std.proofs.Common.{sym, subst}
use Rattle.nc_settle.specs.MetaWrites.{named}
use Rattle.nc_restore.specs.Asking.{AskFails}
use Rattle.nc_restore.proofs.AskLaws.{round_ascends, row_fails, row_judged}
use Rattle.nc_restore.proofs.asking.judge_row.Goals as goal

pub get_row-requires-clause-clouds : goal.get_row-requires-clause-clouds
get_row-requires-clause-clouds g c =
    round_ascends g.F.Fleet c.args.name.now c.args.live.now c.args.row (named c.args.on.now) c.args.fleet.now c.args.fleet.now c.width-width.result c.in-Ok.asks.items c.width-width.ensures c.in-Ok.ensures

pub returns-in-Err-get_row-clause-fails : goal.returns-in-Err-get_row-clause-fails
returns-in-Err-get_row-clause-fails g c =
    subst (AskFails g.F.Fleet (named c.args.on.now) 1 c.args.fleet.now c.get_row.new.fleet) (sym c.fault_of.ensures)
    (row_fails g.F.Fleet c.args.name.now c.args.live.now c.args.row (named c.args.on.now) c.args.fleet.now c.get_row.new.fleet c.width-width.result _ c.in-Err-get_row.ensures.stopped.0 c.in-Err-get_row.fault c.width-width.ensures c.in-Ok.ensures
    c.in-Err-get_row.ensures.stopped.1)

pub returns-in-Ok-get_row-clause-judged : goal.returns-in-Ok-get_row-clause-judged
returns-in-Ok-get_row-clause-judged g c =
    row_judged g.F.Fleet c.args.name.now c.args.live.now c.args.row (named c.args.on.now) c.args.fleet.now c.get_row.new.fleet c.width-width.result _ c.in-Ok-get_row.asks.items c.bad_ones.result c.width-width.ensures c.in-Ok.ensures
    c.in-Ok-get_row.ensures.got c.bad_ones.ensures
