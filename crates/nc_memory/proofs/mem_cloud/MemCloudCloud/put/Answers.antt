use Rattle.std.proofs.Common.{Some, ap, subst}
use Rattle.nc_cloud.specs.Contents.{ChangesAt, Settles}
use Rattle.nc_memory.specs.MemCloud.{stored_of}
use Rattle.nc_memory.specs.Store.{stored}
use Rattle.nc_memory.proofs.Fates.{failed_leaves}
use Rattle.nc_memory.proofs.mem_cloud.MemCloudCloud.put.Goals as goal
use Rattle.std.proofs.Common.{false}

pub returns-then-is_some-clause-told : goal.returns-then-is_some-clause-told
returns-then-is_some-clause-told c =
    subst (λ s. ChangesAt c.args.key.now (Settles false (Some c.args.bytes.now)) s (stored c.put_by.new.objects.items))
    (ap stored_of c.turn-refused.ensures.stays)
    (failed_leaves c.turn-refused.result (Some c.args.bytes.now) c.requires c.in_ok-put_by.ensures.ok)
