use Rattle.std.proofs.Common.{sym, subst}
use Rattle.nc_cloud.specs.Fleet.{write}
use Rattle.nc_memory.specs.Memory.{entries_of}
use Rattle.nc_memory.specs.Record.{WholeSteps}
use Rattle.nc_memory.proofs.Wholes.{whole_entries}
use Rattle.nc_memory.proofs.memory.MemFleet.take_jobs.Goals as goal

pub record_writes-requires : goal.record_writes-requires
record_writes-requires c = subst WholeSteps (sym c.in_ok-steps.ensures) (whole_entries write c.deref.result.now (entries_of c.args.self.now) c.args.jobs.now c.requires)
