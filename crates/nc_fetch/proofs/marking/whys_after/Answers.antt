use Rattle.std.proofs.Common.{arith}
use Rattle.nc_fetch.proofs.Growing.{marked_more, marked_none, why_here}
use Rattle.nc_fetch.proofs.marking.whys_after.Goals as goal

pub loop-cloud-init : goal.loop-cloud-init
loop-cloud-init c = marked_none c.args.zeros.now c.args.ones.now c.args.whys.now c.told-whys

pub loop-cloud-preserved : goal.loop-cloud-preserved
loop-cloud-preserved c =
    marked_more c.args.zeros.now c.args.ones.now c.loop-cloud.cloud c.args.whys.now c.loop-cloud.table c.why_after.result c.loop-cloud.invariant (omega (arith, c.loop-cloud-test.true, c.requires.few))
    (why_here c.args.zeros.now c.args.ones.now c.args.whys.now c.loop-cloud.cloud c.index-zeros-cloud.result c.index-ones-cloud.result _ c.why_after.result
    c.loop-cloud-test.true (omega (arith, c.loop-cloud-test.true, c.requires.same)) (omega (arith, c.loop-cloud-test.true, c.requires.few, c.told-whys)) c.index-zeros-cloud.is c.index-ones-cloud.is c.why_after.ensures)
