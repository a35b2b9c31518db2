use Rattle.std.proofs.Common.{arith}
use Rattle.nc_lanes.proofs.Bits.{start, next, finished}
use Rattle.nc_lanes.proofs.lanes.products.Goals as goal

pub loop-init : goal.loop-init
loop-init c = start c.args.a c.args.b c.fits-a.0 c.fits-b.0

pub loop-preserved : goal.loop-preserved
loop-preserved c =
    next c.args.a c.args.b c.loop.counter c.loop.product c.loop.multiple c.loop.bits _ _ _ c.where_odd.result c.loop-test.true c.loop.invariant
    c.where_odd.ensures c.sum-product.ensures c.doubled-multiple.ensures c.halved-bits.ensures

pub returns : goal.returns
returns c =
    let over = c.loop-test.false in
    let most = c.loop.auto.counter-end in
    finished c.args.a c.args.b c.loop.counter c.loop.product c.loop.multiple c.loop.bits (omega arith) c.loop.invariant
