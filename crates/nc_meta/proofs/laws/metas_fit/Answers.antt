use Rattle.nc_meta.proofs.MetasFit.{metas_fit}
use Rattle.nc_meta.proofs.laws.metas_fit.Goals as goal

pub returns : goal.returns
returns c = metas_fit
