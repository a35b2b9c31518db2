use Rattle.std.proofs.Common.{◌∙◌}
use Rattle.std.proofs.lemmas.Result.{IfOk-weaker}
use Rattle.nc_drive.specs.declared.driving.Ending.{Ending}
use Rattle.nc_drive.proofs.EndLaws.{until}
use Rattle.nc_drive.proofs.driving.run_until.Goals as goal

pub returns : goal.returns
returns g c =
    let shown = c.run_shown-status.ensures.concludes in
    record {
      runs = IfOk-weaker _ _ _ (λ (e : Ending) is.
          until _ _ c.args.round c.args.fleet.now c.run_shown-status.new.fleet c.new-source.result c.run_shown-status.new.source c.new-out.result
          c.run_shown-status.new.out c.new-limit.result c.run_shown-status.new.watch c.run_shown-status.result e c.new-limit.ensures.round
          c.new-limit.ensures.none c.new-limit.ensures.since c.requires.begins (c.new-source.ensures.left ∙ c.in_ok-bytes.ensures ∙ c.bytes.ensures)
          c.new-out.ensures.empty c.run_shown-status.ensures.answered is shown.ending shown.is shown.shown)
          c.told_end.ensures.ending;
    }
