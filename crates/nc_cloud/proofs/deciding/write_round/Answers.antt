use Rattle.std.proofs.Common.{◌≡◌, List, subst, All}
use Rattle.std.proofs.lemmas.Result.{IfErr-weaker, on_ok_weaker}
use Rattle.nc_cloud.specs.declared.fleet.Job.{Job}
use Rattle.nc_cloud.specs.declared.fleet.Done.TheVariants as done
use Rattle.nc_cloud.specs.Contents.{Write}
use Rattle.nc_cloud.specs.Fleet.{write, writes}
use Rattle.nc_cloud.specs.Images.{Image, Written}
use Rattle.nc_cloud.specs.Deciding.{BlamesJob}
use Rattle.nc_cloud.proofs.Images.{leaves_image, leaves_written}
use Rattle.nc_cloud.proofs.Decisions.{caused, ascend_kept, once, done_counts}
use Rattle.nc_cloud.proofs.Time.{stops_round}
use Rattle.nc_cloud.proofs.deciding.write_round.Goals as goal

pub put_round-requires-clause-below : goal.put_round-requires-clause-below
put_round-requires-clause-below g c = c.requires.clouds.below

pub put_round-requires-clause-once : goal.put_round-requires-clause-once
put_round-requires-clause-once g c = once _ _ _ c.requires.clouds

pub returns : goal.returns
returns g c =
    let old = g.F.Fleet.held c.args.fleet.now in
    let new = g.F.Fleet.held c.put_round.new.self in
    let image : g.F.Fleet.tells → Image (writes c.args.jobs.now) old new =
    λ told. subst (λ (ps : List Write). Image ps old new) c.put_round.ensures.entries (leaves_image _ _ _ (c.put_round.ensures.told told)) in
    record {
      wrote = record {
        entries = c.put_round.ensures.entries;
        decides = c.written.ensures;
        image = image;
        keeps = λ told. record {
          here = image told;
          stops = stops_round (Image (writes c.args.jobs.now) old) c.put_round.ensures.time c.put_round.ensures.past (λ G is. is);
        };
        done = λ told.
            let turned : All (λ j. j.done ≡ done.Ok) c.put_round.new.jobs → Written (writes c.args.jobs.now) old new =
            λ ok. subst (λ (ps : List Write). Written ps old new) c.put_round.ensures.entries (leaves_written _ _ _ ok (c.put_round.ensures.told told)) in
            on_ok_weaker _ turned c.written.ensures.ok;
        counts = record {
          cause =
              IfErr-weaker _ _ _ (caused (λ (j : Job). j.cloud) (λ j. j.done ≡ done.Ok) (λ j. j.done ≡ done.Failed) BlamesJob (λ j k b. b) (λ j ok failed. cc)
              g.F.Fleet.counts_exactly (g.F.Fleet.faults c.args.fleet.now) (g.F.Fleet.faults c.put_round.new.self) _ c.put_round.new.jobs
              (ascend_kept write (λ p. p.cloud) _ c.args.jobs.now c.put_round.new.jobs c.put_round.ensures.entries c.requires.clouds)
              c.put_round.ensures.failed c.put_round.ensures.exact) c.written.ensures.err;
          clean = λ exact. on_ok_weaker _ (done_counts c.put_round.new.jobs _ _ (c.put_round.ensures.exact exact)) c.written.ensures.ok;
        };
        clouds = c.put_round.ensures.clouds;
        grows = c.put_round.ensures.grows;
        slips = c.put_round.ensures.slips;
        gets = c.put_round.ensures.gets;
        time = record { later = c.put_round.ensures.time.later; stays = c.put_round.ensures.past };
      };
    }
