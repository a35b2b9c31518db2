use Rattle.std.proofs.Common.{arith}
use Rattle.nc_drive.specs.declared.event.Event.TheVariants.{Run}
use Rattle.nc_drive.proofs.DriveLaws.{happens_by, has_status, whole_run}
use Rattle.nc_drive.proofs.driving.run_event.Goals as goal

pub returns : goal.returns
returns g c = record {
  happens = happens_by (Run c.args.words.now c.args.input.now) c.args.fleet.now c.run_until.new.fleet c.whole.result
      (whole_run _ c.args.input.now _ c.args.fleet.now c.run_until.new.fleet c.in_ok-end.end c.whole.result c.in_ok-end.ensures.runs
      c.whole.ensures.status c.whole.ensures.out c.whole.ensures.mark c.whole.ensures.done);
}

pub whole-requires : goal.whole-requires
whole-requires g c = record {
  ended = has_status _ c.args.input.now _ c.args.fleet.now c.run_until.new.fleet c.in_ok-end.end c.in_ok-end.ensures.runs
      (omega (arith, c.told_rounds-2.ensures));
}
