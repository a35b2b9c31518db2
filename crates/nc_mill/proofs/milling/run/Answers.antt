use Rattle.std.proofs.Common.{refl}
use Rattle.nc_mill.proofs.LossLaws.{stores_keeps, stores_same}
use Rattle.nc_mill.proofs.milling.run.Goals as goal

pub get_file-requires-clause-keeps : goal.get_file-requires-clause-keeps
get_file-requires-clause-keeps g c κs alive = stores_keeps c.args.job.now _ _ _ refl c.in_ok-lose_cloud.ensures.stores

pub repair_cloud-requires-clause-stores : goal.repair_cloud-requires-clause-stores
repair_cloud-requires-clause-stores g c κs alive = stores_same c.args.job.now _ _ _ c.get_file.ensures.held c.in_ok-lose_cloud.ensures.stores
