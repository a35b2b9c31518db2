use Rattle.nc_mds.proofs.StripedMds.{striped_mds}
use Rattle.nc_mds.proofs.laws.striped_is_mds.Goals as goal

pub returns : goal.returns
returns c = striped_mds
