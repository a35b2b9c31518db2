use Rattle.nc_fetch.proofs.Growing.{marked_with_more}
use Rattle.nc_fetch.proofs.causes.marked_with.Goals as goal

pub loop-cloud-preserved : goal.loop-cloud-preserved
loop-cloud-preserved c = marked_with_more c.args.why c.args.on.now c.loop-cloud.cloud c.loop-cloud.whys c.mark_of.result _ c.told-on c.loop-cloud-test.true c.loop-cloud.invariant c.mark_of.ensures
