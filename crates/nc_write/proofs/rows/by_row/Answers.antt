use Rattle.std.proofs.Common.{arith}
use Rattle.nc_write.proofs.RowLaws.{pair_more}
use Rattle.nc_write.proofs.rows.by_row.Goals as goal

pub loop-cloud-preserved : goal.loop-cloud-preserved
loop-cloud-preserved c =
    pair_more _ _ _ _ _ _ _ _ _ _ _ c.loop-cloud.invariant (omega arith) c.remove-zero.ensures.value c.remove-zero.ensures.items c.remove-one.ensures.value c.remove-one.ensures.items c.in_ok-place.ensures c.in_ok-place-2.ensures
