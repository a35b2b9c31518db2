use Rattle.nc_settle.specs.MetaWrites.{named}
use Rattle.nc_restore.proofs.ReadLaws.{outside_more}
use Rattle.nc_restore.proofs.reading.outside.Goals as goal

pub loop-cloud-preserved : goal.loop-cloud-preserved
loop-cloud-preserved c = outside_more (named c.args.on.now) c.args.whys.now c.loop-cloud.table c.loop-cloud.cloud c.outside_why.result c.loop-cloud-test.true c.loop-cloud.invariant c.outside_why.ensures
