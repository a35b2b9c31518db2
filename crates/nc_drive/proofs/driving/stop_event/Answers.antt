use Rattle.std.proofs.Common.{◌≡◌, ◌≤◌, ◌<◌, ◌+◌, arith}
use Rattle.nc_memory.specs.Memory.{log_of}
use Rattle.nc_memory.specs.Rounds.{rounds_in}
use Rattle.nc_drive.specs.declared.event.Event.TheVariants.{Stop}
use Rattle.nc_drive.proofs.DriveLaws.{happens_by, has_status, not_stopped, stopped}
use Rattle.nc_drive.proofs.driving.stop_event.Goals as goal

pub returns-then-rounds-at : goal.returns-then-rounds-at
returns-then-rounds-at g c =
    let at = c.saturating_add-at.result in
    let small : at ≤ rounds_in (log_of c.args.fleet.now) + c.args.round = omega (arith, c.saturating_add-at.ensures, c.rounds.ensures) in
    let within : rounds_in (log_of c.run_until.new.fleet) ≤ at = omega (arith, c.if-rounds-at.true, c.rounds-2.ensures) in
    record {
      happens = happens_by (Stop c.args.words.now c.args.input.now c.args.round c.args.fates.now) c.args.fleet.now c.run_until.new.fleet c.whole.result
          (not_stopped _ c.args.input.now at c.args.round c.args.fates.now c.args.fleet.now c.run_until.new.fleet c.in_ok-end.end c.whole.result c.in_ok-end.ensures.runs
          small within c.whole.ensures.status c.whole.ensures.out c.whole.ensures.mark c.whole.ensures.done);
    }

pub returns : goal.returns
returns g c =
    let at = c.saturating_add-at.result in
    let has_round : at < rounds_in (log_of c.run_until.new.fleet) = omega (arith, c.if-rounds-at.false, c.rounds-2.ensures) in
    let is : at ≡ rounds_in (log_of c.args.fleet.now) + c.args.round = omega (arith, c.saturating_add-at.ensures, c.rounds.ensures, c.if-rounds-at.false, c.rounds-2.type_inv) in
    record {
      happens = happens_by (Stop c.args.words.now c.args.input.now c.args.round c.args.fates.now) c.args.fleet.now c.in_ok-fleet.field-0 c.quiet.result
          (stopped _ c.args.input.now at c.args.round c.args.fates.now c.args.fleet.now c.run_until.new.fleet c.in_ok-fleet.field-0 c.in_ok-end.end c.quiet.result c.in_ok-end.ensures.runs
          is has_round c.in_ok-fleet.ensures.since c.in_ok-fleet.ensures.cut c.in_ok-fleet.ensures.leaves c.in_ok-fleet.ensures.width
          c.quiet.ensures.quiet c.quiet.ensures.mark c.quiet.ensures.done);
    }

pub whole-requires : goal.whole-requires
whole-requires g c = record {
  ended = has_status _ c.args.input.now c.saturating_add-at.result c.args.fleet.now c.run_until.new.fleet c.in_ok-end.end c.in_ok-end.ensures.runs
      (omega (arith, c.if-rounds-at.true, c.rounds-2.ensures));
}
