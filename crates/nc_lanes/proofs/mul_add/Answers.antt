use Rattle.std.proofs.Common.{◌+◌, ◌*◌, ap, ◌∙◌, arith, slice_index, bit_xor}
use Rattle.nc_gf256.specs.Field.{mul}
use Rattle.nc_lanes.specs.Lanes.{plus_scaled}
use Rattle.nc_lanes.proofs.Progress.{lanes_done, all_done, plus_scaled_past}
use Rattle.nc_lanes.proofs.mul_add.Goals as goal

pub loop-block-preserved : goal.loop-block-preserved
loop-block-preserved c =
    let at = 32 * c.loop-block.block in
    let dst = c.args.dst.now in
    let h = c.loop-block.invariant in
    lanes_done (plus_scaled c.args.c dst c.args.src.now) at (32 * (c.loop-block.block + 1)) c.sum.result dst c.loop-block.dst c.store.new.bytes (omega arith) h c.store.ensures
    (λ k lt.
    c.sum.ensures.each k lt
    ∙ ap (λ x. bit_xor x (slice_index c.times.result k)) (c.load.ensures.each k lt ∙ h.rest (at + k) (omega arith))
    ∙ ap (bit_xor (slice_index dst (at + k)))
    (c.times.ensures.each k lt
    ∙ ap (λ f. mul f (slice_index c.load-in-loop-block.result k)) c.of-multiples.ensures
    ∙ ap (mul c.args.c) (c.load-in-loop-block.ensures.each k lt)))

pub returns : goal.returns
returns c =
    let end = c.loop-i-test.false in
    let same = c.loop-block.auto.dst in
    all_done (plus_scaled c.args.c c.args.dst.now c.args.src.now) c.loop-i.i c.args.dst.now c.loop-i.dst c.loop-i.invariant (omega arith)
    (plus_scaled_past c.args.c c.args.dst.now c.args.src.now c.requires)
