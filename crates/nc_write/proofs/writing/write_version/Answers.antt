use Rattle.std.proofs.Common.{sym, subst}
use Rattle.nc_cloud.specs.declared.fleet.Job.{Job}
use Rattle.nc_cloud.specs.Deciding.{AreAscending}
use Rattle.nc_write.specs.Writes.{clouds_of}
use Rattle.nc_write.proofs.ChunkRounds.{metas_ascend, row_ascend}
use Rattle.nc_write.proofs.writing.write_version.Goals as goal

pub write_row-requires-clause-clouds : goal.write_row-requires-clause-clouds
write_row-requires-clause-clouds g c =
    let made = c.requires.made.made in
    row_ascend _ _ _ _ made.zeros _ made.made.row_0 _ made.made.ascend

pub write_rest-requires-clause-clouds : goal.write_rest-requires-clause-clouds
write_rest-requires-clause-clouds g c =
    let made = c.requires.made.made in
    row_ascend _ _ _ _ made.ones _ made.made.row_1 _
    (subst (λ z. AreAscending (λ k. k) z (clouds_of made.ones)) (sym c.write_row.ensures.wrote.1.clouds)
    (subst (AreAscending (λ k. k) (g.F.Fleet.clouds c.args.fleet.now)) (sym made.made.same) made.made.ascend))

pub write_rest-requires-clause-meta_clouds : goal.write_rest-requires-clause-meta_clouds
write_rest-requires-clause-meta_clouds g c =
    let made = c.requires.made.made in
    subst (λ z. AreAscending (λ (j : Job). j.cloud) z c.args.version.metas.items) (sym c.write_row.ensures.wrote.1.clouds) (metas_ascend _ _ _ _ made.made.metas_are)
