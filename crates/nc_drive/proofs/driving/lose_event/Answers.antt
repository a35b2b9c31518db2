use Rattle.nc_drive.specs.declared.event.Event.TheVariants.{Lose}
use Rattle.nc_drive.proofs.DriveLaws.{happens_by, lose}
use Rattle.nc_drive.proofs.driving.lose_event.Goals as goal

pub returns : goal.returns
returns c = record {
  happens = happens_by (Lose c.args.cloud c.args.damage.now) c.args.fleet.now c.lose.new.self c.quiet.result
      (lose c.args.cloud c.args.damage.now c.args.fleet.now c.lose.new.self c.quiet.result c.requires.within c.in_ok-lose.ensures.ok c.in_ok-lose.ensures.leaves
      c.in_ok-lose.ensures.others c.lose.ensures.width c.quiet.ensures.quiet c.quiet.ensures.mark c.quiet.ensures.done);
}
