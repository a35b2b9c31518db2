use Rattle.nc_code.proofs.RepairLemmas.{repaired_twice}
use Rattle.nc_code.proofs.repair.repairing_twice.Goals as goal

pub returns : goal.returns
returns c = repaired_twice
