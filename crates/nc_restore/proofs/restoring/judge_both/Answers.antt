use Rattle.nc_settle.specs.MetaWrites.{named}
use Rattle.nc_restore.proofs.TurnLaws.{both_judged, first_fails, second_fails}
use Rattle.nc_restore.proofs.restoring.judge_both.Goals as goal

pub returns-in-Err-clause-fails : goal.returns-in-Err-clause-fails
returns-in-Err-clause-fails g c = first_fails g.F.Fleet c.args.name.now c.args.live.now (named c.args.on.now) c.args.fleet.now c.judge_row.new.fleet c.judge_row.new.fleet c.in-Err.fault c.in-Err.ensures.fails

pub returns-in-Ok-judge_row-clause-judged : goal.returns-in-Ok-judge_row-clause-judged
returns-in-Ok-judge_row-clause-judged g c =
    both_judged g.F.Fleet c.args.name.now c.args.live.now (named c.args.on.now) c.args.fleet.now c.judge_row.new.fleet c.judge_row-2.new.fleet c.in-Ok.zeros c.in-Ok-judge_row.ones c.in-Ok.ensures.judged
    c.in-Ok-judge_row.ensures.judged

pub returns-in-Err-judge_row-clause-fails : goal.returns-in-Err-judge_row-clause-fails
returns-in-Err-judge_row-clause-fails g c =
    second_fails g.F.Fleet c.args.name.now c.args.live.now (named c.args.on.now) c.args.fleet.now c.judge_row.new.fleet c.judge_row-2.new.fleet (named c.in-Ok.zeros) c.in-Err-judge_row.fault c.in-Ok.ensures.judged
    c.in-Err-judge_row.ensures.fails
