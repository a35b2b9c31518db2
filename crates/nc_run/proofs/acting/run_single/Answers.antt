use Rattle.nc_words.specs.Acts.{task_of}
use Rattle.nc_run.proofs.SingleLaws.{single_cut, single_done, single_stopped, single_unwritten}
use Rattle.nc_run.proofs.acting.run_single.Goals as goal

pub returns-in-GoesOn : goal.returns-in-GoesOn
returns-in-GoesOn g c =
    let x = single_done g.F.Fleet g.K.Sink g.W.Watch (task_of c.args.setting.now c.args.act.now c.args.bytes.now) c.args.fleet.now c.args.out.now
    c.args.watch.now c.requires.begins c.in-GoesOn.ensures.leaves c.plain.result c.plain.ensures in
    record { begun = x.begun; late = x.late; shown = x.shown; write = x.write }

pub returns-in-Cut-clause-shown : goal.returns-in-Cut-clause-shown
returns-in-Cut-clause-shown g c =
    single_cut g.F.Fleet g.K.Sink g.W.Watch (task_of c.args.setting.now c.args.act.now c.args.bytes.now) c.args.fleet.now c.args.out.now
    c.args.watch.now c.requires.begins c.in-Cut.ensures.leaves

pub returns-in-Unwritten : goal.returns-in-Unwritten
returns-in-Unwritten g c =
    let x = single_unwritten g.F.Fleet g.K.Sink g.W.Watch (task_of c.args.setting.now c.args.act.now c.args.bytes.now) c.args.fleet.now c.args.out.now
    c.args.watch.now c.requires.begins c.in-Unwritten.ensures.leaves c.plain-in-Unwritten.result c.plain-in-Unwritten.ensures in
    record { begun = x.begun; late = x.late; shown = x.shown; write = x.write }

pub returns-in-Stopped : goal.returns-in-Stopped
returns-in-Stopped g c =
    let x = single_stopped g.F.Fleet g.K.Sink g.W.Watch (task_of c.args.setting.now c.args.act.now c.args.bytes.now) c.args.fleet.now c.args.out.now
    c.args.watch.now c.requires.begins c.in-Stopped.ensures.leaves in
    record { begun = x.begun; late = x.late; shown = x.shown; write = x.write }
