use Rattle.std.proofs.Common.{List, subst}
use Rattle.nc_cloud.specs.declared.fleet.Erase.{Erase}
use Rattle.nc_cloud.specs.Contents.{Write}
use Rattle.nc_cloud.specs.Fleet.{erasure, erasures}
use Rattle.nc_cloud.specs.Images.{Image, Written}
use Rattle.nc_cloud.specs.Deciding.{AreAscending}
use Rattle.nc_cloud.proofs.Images.{erases_image, erases_written}
use Rattle.nc_cloud.proofs.Decisions.{ascend_kept, once}
use Rattle.nc_cloud.proofs.AllDone.{all_done}
use Rattle.nc_cloud.proofs.Time.{stops_round}
use Rattle.nc_cloud.proofs.erasing.erase_round.Goals as goal

pub delete_round-requires-clause-below : goal.delete_round-requires-clause-below
delete_round-requires-clause-below g c = c.requires.clouds.below

pub delete_round-requires-clause-once : goal.delete_round-requires-clause-once
delete_round-requires-clause-once g c = once _ _ _ c.requires.clouds

pub returns : goal.returns
returns g c =
    let old = g.F.Fleet.held c.args.fleet.now in
    let new = g.F.Fleet.held c.delete_round.new.self in
    let e = c.delete_round.ensures in
    record {
      erased = record {
        keeps = λ told. record {
          here = subst (λ (ps : List Write). Image ps old new) e.entries (erases_image _ _ _ (e.told told));
          stops = stops_round (Image (erasures c.args.erases.now) old) e.time e.past (λ G is. is);
        };
        gone = λ told sure none.
            let by : AreAscending (λ (x : Erase). x.cloud) (g.F.Fleet.clouds c.args.fleet.now) c.delete_round.new.erases
            = ascend_kept erasure (λ p. p.cloud) _ c.args.erases.now c.delete_round.new.erases e.entries c.requires.clouds in
            subst (λ (ps : List Write). Written ps old new) e.entries
            (erases_written _ _ _
            (all_done _ c.delete_round.new.erases (g.F.Fleet.slips c.args.fleet.now) (g.F.Fleet.slips c.delete_round.new.self)
            by.below e.answered (e.sure sure) e.failed none)
            (e.told told));
        clouds = e.clouds;
        faults = e.faults;
        grows = e.grows;
        gets = e.gets;
        time = record { later = e.time.later; stays = e.past };
      };
    }
