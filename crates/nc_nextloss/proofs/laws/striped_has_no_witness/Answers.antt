use Rattle.nc_nextloss.proofs.NoWitness.{no_witness}
use Rattle.nc_nextloss.proofs.laws.striped_has_no_witness.Goals as goal

pub returns : goal.returns
returns c = no_witness
