use Rattle.std.proofs.Common.{◌∙◌, ℕ, arith, refl, subst, sym, true}
use Rattle.nc_words.specs.Acts.{FitsWidth, task_of}
use Rattle.nc_run.specs.Items.Item.{InLine}
use Rattle.nc_run.proofs.BatchLaws.{batch_cut, batch_memory, batch_more, batch_outside, batch_stopped, batch_unwritten, items_in, line_wants}
use Rattle.nc_run.proofs.CourseLaws.{all_of, none_yet}
use Rattle.nc_run.proofs.LineLaws.{none_left, some_left}
use Rattle.nc_run.proofs.batching.run_lines.Goals as goal

pub loop-rest-init : goal.loop-rest-init
loop-rest-init g l = (
  none_yet g.F.Fleet g.K.Sink g.W.Watch (g.F.Fleet.clouds l.args.fleet.now) true (items_in l.args.setting.now l.args.input.now) l.args.fleet.now l.args.out.now l.args.watch.now refl l.requires.begins,
  omega arith,
)

pub first_line-requires : goal.first_line-requires
first_line-requires g c = record { some = some_left c.loop-rest.rest.now c.loop-rest-test.ensures }

pub turn-requires-clause-width : goal.turn-requires-clause-width
turn-requires-clause-width g c κs alive =
    (omega (arith, c.loop-rest.invariant.0.did.clouds, c.requires.width.0), omega (arith, c.loop-rest.invariant.0.did.clouds, c.requires.width.1))

pub turn-requires-clause-fits : goal.turn-requires-clause-fits
turn-requires-clause-fits g c κs alive =
    subst (λ (k : ℕ). FitsWidth k c.in-Ok.read.act) (c.width-width.ensures ∙ sym c.loop-rest.invariant.0.did.clouds) c.in-Ok.ensures.fits

pub turn-requires-clause-short : goal.turn-requires-clause-short
turn-requires-clause-short g c =
    rw c.bytes-bytes.ensures (omega (arith, c.in-Ok.ensures.short, c.first_line.ensures.line, c.loop-rest.invariant.1, c.requires.short))

pub returns-in-Err-Outside : goal.returns-in-Err-Outside
returns-in-Err-Outside g c =
    let x = batch_outside g.F.Fleet g.K.Sink g.W.Watch c.args.setting.now c.args.input.now c.args.fleet.now c.args.out.now c.args.watch.now
    c.loop-rest.rest.now c.first_line.result.0.now c.first_line.result.1.now c.first_line.ensures.lines c.loop-rest.invariant.0
    c.width-width.result c.in-Err-Outside.field-0 c.width-width.ensures c.in-Err-Outside.field-0-is c.in-Err-Outside.ensures.fault c.plain.result c.plain.ensures in
    record { begun = x.begun; late = x.late; shown = x.shown; write = x.write }

pub returns-in-Err-Memory : goal.returns-in-Err-Memory
returns-in-Err-Memory g c =
    let x = batch_memory g.F.Fleet g.K.Sink g.W.Watch c.args.setting.now c.args.input.now c.args.fleet.now c.args.out.now c.args.watch.now
    c.loop-rest.rest.now c.first_line.result.0.now c.first_line.result.1.now c.first_line.ensures.lines c.loop-rest.invariant.0
    c.plain-in-Err-Memory.result c.plain-in-Err-Memory.ensures in
    record { begun = x.begun; late = x.late; shown = x.shown; write = x.write }

pub returns-in-Cut-clause-shown : goal.returns-in-Cut-clause-shown
returns-in-Cut-clause-shown g c =
    batch_cut g.F.Fleet g.K.Sink g.W.Watch c.args.setting.now c.args.input.now c.args.fleet.now c.args.out.now c.args.watch.now
    c.loop-rest.rest.now c.first_line.result.0.now c.first_line.result.1.now c.first_line.ensures.lines c.loop-rest.invariant.0
    (task_of c.args.setting.now c.in-Ok.read.act c.bytes-bytes.result.now)
    (line_wants c.width-width.result (g.F.Fleet.clouds c.args.fleet.now) c.args.setting.now c.first_line.result.0.now c.in-Ok.read.act c.in-Ok.read.bytes c.bytes-bytes.result.now c.width-width.ensures c.bytes-bytes.ensures c.in-Ok.ensures.line)
    c.in-Cut.ensures.leaves

pub returns-in-Unwritten : goal.returns-in-Unwritten
returns-in-Unwritten g c =
    let x = batch_unwritten g.F.Fleet g.K.Sink g.W.Watch c.args.setting.now c.args.input.now c.args.fleet.now c.args.out.now c.args.watch.now
    c.loop-rest.rest.now c.first_line.result.0.now c.first_line.result.1.now c.first_line.ensures.lines c.loop-rest.invariant.0
    (task_of c.args.setting.now c.in-Ok.read.act c.bytes-bytes.result.now)
    (line_wants c.width-width.result (g.F.Fleet.clouds c.args.fleet.now) c.args.setting.now c.first_line.result.0.now c.in-Ok.read.act c.in-Ok.read.bytes c.bytes-bytes.result.now c.width-width.ensures c.bytes-bytes.ensures c.in-Ok.ensures.line)
    c.in-Unwritten.ensures.leaves c.in_line.result c.in_line.ensures in
    record { begun = x.begun; late = x.late; shown = x.shown; write = x.write }

pub returns-in-Stopped : goal.returns-in-Stopped
returns-in-Stopped g c =
    let x = batch_stopped g.F.Fleet g.K.Sink g.W.Watch c.args.setting.now c.args.input.now c.args.fleet.now c.args.out.now c.args.watch.now
    c.loop-rest.rest.now c.first_line.result.0.now c.first_line.result.1.now c.first_line.ensures.lines c.loop-rest.invariant.0
    (task_of c.args.setting.now c.in-Ok.read.act c.bytes-bytes.result.now)
    (line_wants c.width-width.result (g.F.Fleet.clouds c.args.fleet.now) c.args.setting.now c.first_line.result.0.now c.in-Ok.read.act c.in-Ok.read.bytes c.bytes-bytes.result.now c.width-width.ensures c.bytes-bytes.ensures c.in-Ok.ensures.line)
    c.in-Stopped.ensures.leaves c.in_line-in-Stopped.result c.in_line-in-Stopped.ensures in
    record { begun = x.begun; late = x.late; shown = x.shown; write = x.write }

pub loop-rest-smaller : goal.loop-rest-smaller
loop-rest-smaller g l = l.first_line.ensures.rest

pub loop-rest-preserved : goal.loop-rest-preserved
loop-rest-preserved g l = (
  batch_more g.F.Fleet g.K.Sink g.W.Watch l.args.setting.now l.args.input.now l.args.fleet.now l.args.out.now l.args.watch.now
      l.loop-rest.rest.now l.first_line.result.0.now l.first_line.result.1.now l.first_line.ensures.lines l.loop-rest.invariant.0
      (task_of l.args.setting.now l.in-Ok.read.act l.bytes-bytes.result.now)
      (line_wants l.width-width.result (g.F.Fleet.clouds l.args.fleet.now) l.args.setting.now l.first_line.result.0.now l.in-Ok.read.act l.in-Ok.read.bytes l.bytes-bytes.result.now l.width-width.ensures l.bytes-bytes.ensures l.in-Ok.ensures.line)
      l.in-GoesOn.ensures.leaves,
  omega (arith, l.loop-rest.invariant.1, l.first_line.ensures.rest),
)

pub returns : goal.returns
returns g c =
    let x = all_of g.F.Fleet g.K.Sink g.W.Watch (g.F.Fleet.clouds c.args.fleet.now) true (items_in c.args.setting.now c.args.input.now) c.loop-rest.invariant.0
    (none_left (InLine c.args.setting.now) c.loop-rest.rest.now c.loop-rest-test.ensures) c.plain-2.result c.plain-2.ensures in
    record { begun = x.begun; late = x.late; shown = x.shown; write = x.write }
