use Rattle.std.proofs.Common.{refl}
use Rattle.nc_settle.specs.declared.settled.SettleFault.TheVariants as settle
use Rattle.nc_vault.proofs.scrubbing.scrub_name.Goals as goal

-- no memory was found for the list
pub returns-clause-stopped : goal.returns-clause-stopped
returns-clause-stopped g c = record { fault = settle.Memory; is = refl; refuses = λ told. tt; counts = tt }
