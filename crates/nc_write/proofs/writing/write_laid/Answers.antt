use Rattle.std.proofs.Common.{refl, subst, sym}
use Rattle.nc_cloud.specs.declared.fleet.Job.{Job}
use Rattle.nc_cloud.specs.Deciding.{AreAscending}
use Rattle.nc_write.specs.Writes.{clouds_of}
use Rattle.nc_write.proofs.ChunkRounds.{metas_ascend, row_ascend}
use Rattle.nc_write.proofs.LaidRounds.{goes_on, stops_at_first}
use Rattle.nc_write.proofs.LayingLaws.{row_finished, row_long}
use Rattle.nc_write.proofs.writing.write_laid.Goals as goal

pub finish_row-requires-clause-long : goal.finish_row-requires-clause-long
finish_row-requires-clause-long g c = λ κ l. let v = c.requires.laid.laid in row_long _ _ _ _ _ _ v.row_0

pub write_beside-second-requires-clause-clouds : goal.write_beside-second-requires-clause-clouds
write_beside-second-requires-clause-clouds g c = λ κ l.
    let v = c.requires.laid.laid in
    row_ascend _ _ _ _ c.requires.laid.zeros _ (row_finished _ _ _ _ _ _ _ v.row_0 c.finish_row.ensures) _ v.ascend

pub write_beside-second-requires-clause-whole : goal.write_beside-second-requires-clause-whole
write_beside-second-requires-clause-whole g c = λ κ l.
    let v = c.requires.laid.laid in
    (row_finished _ _ _ _ _ _ _ v.row_0 c.finish_row.ensures).whole

pub write_beside-second-requires-clause-long : goal.write_beside-second-requires-clause-long
write_beside-second-requires-clause-long g c = λ κ l. let v = c.requires.laid.laid in row_long _ _ _ _ _ _ v.row_1

pub write_rest-requires-clause-clouds : goal.write_rest-requires-clause-clouds
write_rest-requires-clause-clouds g c =
    let v = c.requires.laid.laid in
    row_ascend _ _ _ _ c.requires.laid.ones _ (row_finished _ _ _ _ _ _ _ v.row_1 c.write_beside-second.ensures.finished) _
    (subst (λ z. AreAscending (λ k. k) z (clouds_of c.requires.laid.ones)) (sym c.write_beside-second.ensures.wrote.1.clouds)
    (subst (AreAscending (λ k. k) (g.F.Fleet.clouds c.args.fleet.now)) (sym v.same) v.ascend))

pub write_rest-requires-clause-whole : goal.write_rest-requires-clause-whole
write_rest-requires-clause-whole g c =
    let v = c.requires.laid.laid in
    (row_finished _ _ _ _ _ _ _ v.row_1 c.write_beside-second.ensures.finished).whole

pub write_rest-requires-clause-meta_clouds : goal.write_rest-requires-clause-meta_clouds
write_rest-requires-clause-meta_clouds g c =
    subst (λ z. AreAscending (λ (j : Job). j.cloud) z c.args.version.metas.items) (sym c.write_beside-second.ensures.wrote.1.clouds)
    (metas_ascend _ _ _ _ c.requires.laid.laid.metas_are)

pub returns-in-Err : goal.returns-in-Err
returns-in-Err g c = record {
  rounds =
      stops_at_first g.F.Fleet c.args.version
      (record { live = c.args.version.live; first = c.finish_row.new.jobs; second = c.write_beside-second.result.0; metas = c.args.version.metas })
      (record { live = refl; first = c.finish_row.ensures; second = c.write_beside-second.ensures.finished; metas = refl })
      _ _ _ _ c.write_beside-second.ensures.wrote.1 _ c.in-Err.is;
}

pub returns : goal.returns
returns g c = record {
  rounds =
      goes_on g.F.Fleet c.args.version
      (record { live = c.args.version.live; first = c.finish_row.new.jobs; second = c.write_beside-second.result.0; metas = c.args.version.metas })
      (record { live = refl; first = c.finish_row.ensures; second = c.write_beside-second.ensures.finished; metas = refl })
      _ _ _ _ c.write_beside-second.ensures.wrote.1 _ _ c.in-Ok.is c.write_rest.ensures.rounds;
}
