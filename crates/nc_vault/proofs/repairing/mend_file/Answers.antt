use Rattle.std.proofs.Common.{◌≤◌, ◌-◌, ◌^◌, Err, ap, arith}
use Rattle.nc_vault.specs.Repairing.IsFileUnmended.{stopped}
use Rattle.nc_vault.proofs.RepairPart.{advances_by}
use Rattle.nc_vault.proofs.repairing.mend_file.Goals as goal

pub returns-in-Ok-repair_one-clause-mended : goal.returns-in-Ok-repair_one-clause-mended
returns-in-Ok-repair_one-clause-mended g c = record {
  plan = c.in-Ok.drawn.0;
  good = c.in-Ok.drawn.1;
  drawn = c.in-Ok.ensures.drawn;
  mends = record {
    begins = c.repair_one.ensures.begins;
    alone = c.repair_one.ensures.alone;
    advances = advances_by g.F.Fleet c.repair_one.ensures.clouds c.repair_one.ensures.grows c.repair_one.ensures.slips c.repair_one.ensures.time;
  };
  does = c.in-Ok-repair_one.ensures.does;
  right = c.in-Ok-repair_one.ensures.right;
  made = c.in-Ok-repair_one.ensures.made;
  held = c.in-Ok-repair_one.ensures.holds;
  clean = c.in-Ok-repair_one.ensures.clean;
  gets = c.in-Ok-repair_one.ensures.gets;
}

pub returns-in-Err-repair_one-clause-unmended : goal.returns-in-Err-repair_one-clause-unmended
returns-in-Err-repair_one-clause-unmended g c =
    let last = c.in-Ok.ensures.drawn.has_next in
    stopped c.in-Err-repair_one.fault c.from.ensures
    (record {
      plan = c.in-Ok.drawn.0;
      is_plan = c.told_plan.ensures;
      good = c.in-Ok.drawn.1;
      drawn = c.in-Ok.ensures.drawn;
      mends = record {
        begins = c.repair_one.ensures.begins;
        alone = c.repair_one.ensures.alone;
        advances = advances_by g.F.Fleet c.repair_one.ensures.clouds c.repair_one.ensures.grows c.repair_one.ensures.slips c.repair_one.ensures.time;
      };
      not_worn = λ is. let worn : 2 ^ 64 - 2 ≤ c.args.old.now.generation = c.in-Err-repair_one.ensures.not_worn (ap Err is) in absurd (omega (arith, last, worn));
      cause = c.in-Err-repair_one.ensures.cause;
      stops = c.in-Err-repair_one.ensures.stops;
      kept = c.in-Err-repair_one.ensures.kept;
    })
