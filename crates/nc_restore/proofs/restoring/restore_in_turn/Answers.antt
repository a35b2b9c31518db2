use Rattle.std.proofs.Common.{refl}
use Rattle.nc_settle.specs.MetaWrites.{named}
use Rattle.nc_restore.specs.Restoring.{by_row}
use Rattle.nc_restore.specs.Restoring.RestoreDid.{unasked, unsound}
use Rattle.nc_restore.proofs.TurnLaws.{did_all_good, did_lack, did_write, fit_clouds}
use Rattle.nc_restore.proofs.restoring.restore_in_turn.Goals as goal

pub returns-in-Fails : goal.returns-in-Fails
returns-in-Fails g c = record { did = unsound c.in-Fails.a c.in-Fails.b c.in-Fails.kernel c.in-Fails.ensures.verdict refl refl }

pub returns-in-Err : goal.returns-in-Err
returns-in-Err g c = record { did = unasked c.in_default.ensures.verdict c.in-Err.fault c.in-Err.ensures.fails refl }

pub returns-then-count-eq0 : goal.returns-then-count-eq0
returns-then-count-eq0 g c = record {
  did =
      did_all_good g.F.Fleet c.args.name.now c.args.before.now (named c.args.on.now) c.args.fleet.now c.judge_both.new.fleet (by_row c.in-Ok.bad.zeros c.in-Ok.bad.ones) c.in-Ok.ensures.judged _ _ c.width.ensures c.count_bad-count.ensures
      c.in_default.ensures.verdict c.if-count-eq0.true;
}

pub returns-in-Err-remake : goal.returns-in-Err-remake
returns-in-Err-remake g c = record {
  did =
      did_lack g.F.Fleet c.args.name.now c.args.before.now (named c.args.on.now) c.args.fleet.now c.judge_both.new.fleet (by_row c.in-Ok.bad.zeros c.in-Ok.bad.ones) c.in-Ok.ensures.judged _ _ c.width.ensures c.count_bad-count.ensures
      c.remake.new.fleet c.in-Err-remake.why c.in_default.ensures.verdict c.if-count-eq0.false c.remake.ensures.looked c.remake.ensures.stops c.in-Err-remake.ensures.lacks;
}

pub write_anew-answer-requires-clause-made : goal.write_anew-answer-requires-clause-made
write_anew-answer-requires-clause-made g c =
    fit_clouds g.F.Fleet c.args.name.now c.args.before.now (named c.args.on.now) (by_row c.in-Ok.bad.zeros c.in-Ok.bad.ones) c.judge_both.new.fleet c.remake.new.fleet c.in-Ok-remake.writes c.remake.ensures.looked.clouds
    c.in-Ok-remake.ensures.remade

pub returns : goal.returns
returns g c = record {
  did =
      did_write g.F.Fleet c.args.name.now c.args.before.now (named c.args.on.now) c.args.fleet.now c.judge_both.new.fleet (by_row c.in-Ok.bad.zeros c.in-Ok.bad.ones) c.in-Ok.ensures.judged _ _ c.width.ensures c.count_bad-count.ensures
      c.remake.new.fleet c.write_anew-answer.new.fleet c.in-Ok-remake.writes c.write_anew-answer.result c.counted.result c.in_default.ensures.verdict c.if-count-eq0.false c.remake.ensures.looked c.remake.ensures.stops
      c.in-Ok-remake.ensures.remade c.write_anew-answer.ensures.rounds c.counted.ensures;
}
