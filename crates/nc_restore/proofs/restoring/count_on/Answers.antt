use Rattle.std.proofs.Common.{ap, ◌∙◌, arith}
use Rattle.nc_settle.specs.MetaWrites.{named}
use Rattle.nc_state.specs.Clouds.{count_of}
use Rattle.nc_restore.proofs.TurnLaws.{count_few, counted_more}
use Rattle.nc_restore.proofs.restoring.count_on.Goals as goal

pub count_with-count-requires : goal.count_with-count-requires
count_with-count-requires c = omega (arith, count_few c.loop-cloud.cloud (named c.args.on.now), c.loop-cloud.invariant, c.loop-cloud-test.true, c.requires)

pub loop-cloud-preserved : goal.loop-cloud-preserved
loop-cloud-preserved c = counted_more c.loop-cloud.cloud (named c.args.on.now) _ _ _ c.loop-cloud.invariant c.is_named.ensures c.count_with-count.ensures

pub returns-clause-is : goal.returns-clause-is
returns-clause-is c = c.loop-cloud.invariant ∙ ap (λ k. count_of k (named c.args.on.now)) (omega (arith, c.loop-cloud-test.false, c.loop-cloud.auto.cloud-end))

pub returns-clause-few : goal.returns-clause-few
returns-clause-few c = omega (arith, count_few c.loop-cloud.cloud (named c.args.on.now), c.loop-cloud.invariant, c.loop-cloud-test.false, c.loop-cloud.auto.cloud-end)
