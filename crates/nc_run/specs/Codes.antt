-- Exit codes.
use Rattle.std.specs.Prelude.{ℕ}
use Rattle.nc_vault.specs.declared.fault.Fault.{Fault}
use Rattle.nc_vault.specs.declared.fault.Fault.TheVariants as fault
use Rattle.nc_run.specs.declared.status.Status.{Status}
use Rattle.nc_run.specs.declared.status.Status.TheVariants.{Ok, Width, Usage, Name, BatchLine, TooLong, ReadFault, WriteFault, Vault}

abbrev pub fault_code : Fault → ℕ
fault_code fault.Memory = 1
fault_code fault.NoFile = 3
fault_code (fault.Cloud c) = 4
fault_code (fault.Short clouds) = 5
fault_code (fault.Spent tried) = 6
fault_code (fault.Damaged c r how) = 10
fault_code (fault.Conflict g a b) = 11
fault_code (fault.Misplaced c a b) = 11
fault_code (fault.Unsound a b) = 11
fault_code fault.Worn = 12

-- the exit code of a status
abbrev pub exit_code : Status → ℕ
exit_code Ok = 0
exit_code (Width w) = 2
exit_code Usage = 2
exit_code (Name f) = 2
exit_code (BatchLine k) = 2
exit_code TooLong = 7
exit_code ReadFault = 8
exit_code WriteFault = 9
exit_code (Vault f) = fault_code f
