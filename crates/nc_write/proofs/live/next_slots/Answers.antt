use Rattle.std.proofs.Common.{arith}
use Rattle.nc_write.proofs.PuttingLaws.{slots_all}
use Rattle.nc_write.proofs.live.next_slots.Goals as goal

pub returns : goal.returns
returns c =
    let i = c.loop-cloud.invariant in
    slots_all _ _ _ i.0 (λ k l. i.1 k (omega arith)) (λ k l. i.2 k (omega arith))
