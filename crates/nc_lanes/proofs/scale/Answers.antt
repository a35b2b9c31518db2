use Rattle.std.proofs.Common.{◌+◌, ◌*◌, ap, ◌∙◌, arith, slice_index}
use Rattle.nc_gf256.specs.Field.{mul}
use Rattle.nc_lanes.specs.Lanes.{scaled}
use Rattle.nc_lanes.proofs.Progress.{lanes_done, all_done, scaled_past}
use Rattle.nc_lanes.proofs.scale.Goals as goal

pub loop-block-preserved : goal.loop-block-preserved
loop-block-preserved c =
    let at = 32 * c.loop-block.block in
    let dst = c.args.dst.now in
    let h = c.loop-block.invariant in
    lanes_done (scaled c.args.c dst) at (32 * (c.loop-block.block + 1)) c.times.result dst c.loop-block.dst c.store.new.bytes (omega arith) h c.store.ensures
    (λ k lt.
    c.times.ensures.each k lt
    ∙ ap (λ f. mul f (slice_index c.load.result k)) c.of-multiples.ensures
    ∙ ap (mul c.args.c) (c.load.ensures.each k lt ∙ h.rest (at + k) (omega arith)))

pub returns : goal.returns
returns c =
    let end = c.loop-i-test.false in
    let same = c.loop-block.auto.dst in
    all_done (scaled c.args.c c.args.dst.now) c.loop-i.i c.args.dst.now c.loop-i.dst c.loop-i.invariant (omega arith) (scaled_past c.args.c c.args.dst.now)
