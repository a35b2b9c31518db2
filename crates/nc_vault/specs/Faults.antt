-- Faults of rounds, of settling, of writing, of repairing, of restoring and of fetching as faults of commands.
use Rattle.nc_cloud.specs.declared.deciding.RoundFault.{RoundFault}
use Rattle.nc_cloud.specs.declared.deciding.RoundFault.TheVariants as round
use Rattle.nc_settle.specs.declared.settled.SettleFault.{SettleFault}
use Rattle.nc_settle.specs.declared.settled.SettleFault.TheVariants as settle
use Rattle.nc_write.specs.declared.fault.WriteFault.{WriteFault}
use Rattle.nc_write.specs.declared.fault.WriteFault.TheVariants as write
use Rattle.nc_repair.specs.declared.fault.RepairFault.{RepairFault}
use Rattle.nc_repair.specs.declared.fault.RepairFault.TheVariants as repair
use Rattle.nc_restore.specs.declared.fault.RestoreFault.{RestoreFault}
use Rattle.nc_restore.specs.declared.fault.RestoreFault.TheVariants as restore
use Rattle.nc_download.specs.declared.fault.FetchFault.{FetchFault}
use Rattle.nc_download.specs.declared.fault.FetchFault.TheVariants as fetch
use Rattle.nc_vault.specs.declared.fault.Fault.{Fault}
use Rattle.nc_vault.specs.declared.fault.Fault.TheVariants.{NoFile, Cloud, Damaged, Short, Conflict, Misplaced, Unsound, Worn, Memory}

abbrev pub fault_of_round : RoundFault → Fault
fault_of_round (round.Cloud c) = Cloud c
fault_of_round round.Memory = Memory

abbrev pub fault_of_settle : SettleFault → Fault
fault_of_settle (settle.Cloud c) = Cloud c
fault_of_settle (settle.Misplaced c a b) = Misplaced c a b
fault_of_settle (settle.Conflict g a b) = Conflict g a b
fault_of_settle settle.Memory = Memory

abbrev pub fault_of_write : WriteFault → Fault
fault_of_write (write.Cloud c) = Cloud c
fault_of_write write.Worn = Worn
fault_of_write write.Memory = Memory

abbrev pub fault_of_repair : RepairFault → Fault
fault_of_repair (repair.Cloud c) = Cloud c
fault_of_repair (repair.Damaged c r how) = Damaged c r how
fault_of_repair repair.Worn = Worn
fault_of_repair repair.Memory = Memory

abbrev pub fault_of_restore : RestoreFault → Fault
fault_of_restore (restore.Cloud c) = Cloud c
fault_of_restore (restore.Short list) = Short list
fault_of_restore (restore.Unsound a b) = Unsound a b
fault_of_restore restore.Memory = Memory

abbrev pub fault_of_fetch : FetchFault → Fault
fault_of_fetch fetch.NoFile = NoFile
fault_of_fetch (fetch.Cloud c) = Cloud c
fault_of_fetch (fetch.Short list) = Short list
fault_of_fetch (fetch.Conflict g a b) = Conflict g a b
fault_of_fetch (fetch.Misplaced c a b) = Misplaced c a b
fault_of_fetch (fetch.Unsound a b) = Unsound a b
fault_of_fetch fetch.Memory = Memory
