use Rattle.std.proofs.Common.{None, ap, subst, false}
use Rattle.nc_cloud.specs.Contents.{ChangesAt, Settles}
use Rattle.nc_memory.specs.MemCloud.{stored_of}
use Rattle.nc_memory.specs.Store.{stored}
use Rattle.nc_memory.proofs.Fates.{failed_leaves}
use Rattle.nc_memory.proofs.mem_cloud.MemCloudCloud.delete.Goals as goal

pub returns-then-is_some-clause-told : goal.returns-then-is_some-clause-told
returns-then-is_some-clause-told c =
    subst (λ s. ChangesAt c.args.key.now (Settles false None) s (stored c.delete_by.new.objects.items))
    (ap stored_of c.turn-refused.ensures.stays)
    (failed_leaves c.turn-refused.result None tt c.delete_by.ensures)
