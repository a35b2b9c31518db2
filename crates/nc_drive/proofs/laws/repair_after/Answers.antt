use Rattle.nc_drive.proofs.RepairLaws.{acknowledged_repair}
use Rattle.nc_drive.proofs.laws.repair_after.Goals as goal

pub returns : goal.returns
returns c = acknowledged_repair
