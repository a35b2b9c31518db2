use Rattle.std.proofs.Common.{subst, sym}
use Rattle.nc_cloud.specs.declared.fleet.Job.{Job}
use Rattle.nc_cloud.specs.Deciding.{AreAscending}
use Rattle.nc_write.proofs.writing.write_rest.Goals as goal

pub write_row-requires-2-clause-clouds : goal.write_row-requires-2-clause-clouds
write_row-requires-2-clause-clouds g c =
    subst (λ z. AreAscending (λ (j : Job). j.cloud) z c.args.metas.items) (sym c.write_row.ensures.wrote.1.clouds) c.requires.meta_clouds
