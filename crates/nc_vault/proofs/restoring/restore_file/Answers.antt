use Rattle.std.proofs.Common.{Ok, subst}
use Rattle.nc_state.specs.Clouds.{Clouds}
use Rattle.nc_vault.specs.Restoring.{IsFileRestored, IsFileUnrestored}
use Rattle.nc_vault.proofs.RepairPart.{advances_by}
use Rattle.nc_vault.proofs.RestoreLaws.{heals_restored, restored_few}
use Rattle.nc_vault.proofs.restoring.restore_file.Goals as goal

pub returns-in-Ok-clause-restored : goal.returns-in-Ok-clause-restored
returns-in-Ok-clause-restored g c =
    subst (λ (P : Clouds). IsFileRestored g.F.Fleet (g.F.Fleet.clouds c.args.fleet.now) c.args.name.now c.args.live.now P c.args.fleet.now c.restore_one.new.fleet c.in-Ok.count)
    (heals_restored c.args.first c.args.second)
    (record {
      restores = record {
        rests = c.restore_one.ensures.rests;
        healthy = c.restore_one.ensures.healthy;
        alone = c.restore_one.ensures.alone;
        advances = advances_by g.F.Fleet c.restore_one.ensures.clouds c.restore_one.ensures.grows c.restore_one.ensures.slips c.restore_one.ensures.time;
      };
      sound = c.in-Ok.ensures.sound;
      few = restored_few g.F.Fleet c.args.name.now c.args.live.now c.args.first c.args.second c.args.fleet.now c.restore_one.new.fleet (Ok c.in-Ok.count) c.in-Ok.ensures.did;
      right = c.in-Ok.ensures.right;
      counts = c.in-Ok.ensures.counts;
      clean = c.in-Ok.ensures.clean;
    })

pub returns-in-Err-clause-unrestored : goal.returns-in-Err-clause-unrestored
returns-in-Err-clause-unrestored g c =
    subst (λ (P : Clouds). IsFileUnrestored g.F.Fleet (g.F.Fleet.clouds c.args.fleet.now) c.args.name.now c.args.live.now P c.args.fleet.now c.restore_one.new.fleet c.in-Err.fault)
    (heals_restored c.args.first c.args.second)
    (record {
      restores = record {
        rests = c.restore_one.ensures.rests;
        healthy = c.restore_one.ensures.healthy;
        alone = c.restore_one.ensures.alone;
        advances = advances_by g.F.Fleet c.restore_one.ensures.clouds c.restore_one.ensures.grows c.restore_one.ensures.slips c.restore_one.ensures.time;
      };
      sound = c.in-Err.ensures.sound;
      short = c.in-Err.ensures.short;
      shows = c.in-Err.ensures.shows;
      cause = c.in-Err.ensures.cause;
    })
