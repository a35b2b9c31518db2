use Rattle.std.proofs.Common.{arith}
use Rattle.nc_restore.specs.Restoring.{by_row}
use Rattle.nc_restore.proofs.MakeLaws.{chosen_pair}
use Rattle.nc_restore.proofs.making.chosen_rows.Goals as goal

pub loop-cloud-preserved : goal.loop-cloud-preserved
loop-cloud-preserved c =
    chosen_pair c.args.chunks (by_row c.args.zeros.now c.args.ones.now) c.loop-cloud.cloud _ _ _ _ _ _ _ c.is_named.result c.is_named-in-loop-cloud.result _ _ c.loop-cloud.invariant (omega arith) c.is_named.ensures c.is_named-in-loop-cloud.ensures
    c.remove-zero.ensures.value c.remove-zero.ensures.items c.remove-one.ensures.value c.remove-one.ensures.items c.in_ok-place.ensures c.in_ok-place-2.ensures
