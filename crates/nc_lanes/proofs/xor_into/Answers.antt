use Rattle.std.proofs.Common.{◌+◌, ◌*◌, ap, ◌∙◌, arith, slice_index, bit_xor}
use Rattle.nc_lanes.specs.Lanes.{summed}
use Rattle.nc_lanes.proofs.Progress.{lanes_done}
use Rattle.nc_lanes.proofs.xor_into.Goals as goal

pub loop-block-preserved : goal.loop-block-preserved
loop-block-preserved c =
    let at = 32 * c.loop-block.block in
    let dst = c.args.dst.now in
    let h = c.loop-block.invariant in
    lanes_done (summed dst c.args.src.now) at (32 * (c.loop-block.block + 1)) c.sum.result dst c.loop-block.dst c.store.new.bytes (omega arith) h c.store.ensures
    (λ k lt.
    c.sum.ensures.each k lt
    ∙ ap (λ x. bit_xor x (slice_index c.load-in-loop-block.result k)) (c.load.ensures.each k lt ∙ h.rest (at + k) (omega arith))
    ∙ ap (bit_xor (slice_index dst (at + k))) (c.load-in-loop-block.ensures.each k lt))
