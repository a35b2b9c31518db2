use Rattle.nc_mill.proofs.LossLaws.{loss_stores}
use Rattle.nc_mill.proofs.milling.lose_cloud.Goals as goal

pub returns-in-Ok-clause-stores : goal.returns-in-Ok-clause-stores
returns-in-Ok-clause-stores c = loss_stores c.args.job.now _ _ c.requires.stores c.in-Ok.ensures.loses
