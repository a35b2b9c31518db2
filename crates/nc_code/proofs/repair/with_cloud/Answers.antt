use Rattle.std.proofs.Common.{ap, sym, ◌∙◌, bit_xor, slice_index}
use Rattle.std.specs.Int.Bits.{xor_zero_r}
use Rattle.nc_code.proofs.RepairLemmas.{term_lost, term_survivor}
use Rattle.nc_code.proofs.repair.with_cloud.Goals as goal

pub returns-then-t-lost : goal.returns-then-t-lost
returns-then-t-lost c = λ k.
    sym (ap (bit_xor (slice_index c.args.row.now k)) (term_lost c.args.code.now c.args.lost c.args.plan.now c.args.r k c.args.t c.if-t-lost.true)
    ∙ xor_zero_r (slice_index c.args.row.now k))

pub returns : goal.returns
returns c = λ k.
    let survivor = term_survivor c.args.code.now c.args.lost c.args.plan.now c.args.r k c.args.t c.if-t-lost.false in
    let chosen = c.row-chosen.ensures in
    let view = c.plan.view_is in
    rw survivor (rw (← view) (rw (← chosen) (c.plus_times.ensures.sums k)))
