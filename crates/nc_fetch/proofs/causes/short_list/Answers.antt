use Rattle.std.proofs.Common.{◌≡◌, ◌≤◌, ◌-◌, length, ap, ◌∙◌, arith}
use Rattle.nc_fetch.specs.Whys.{bads}
use Rattle.nc_fetch.proofs.BatchLaws.{bad_one, bads_few}
use Rattle.nc_fetch.proofs.causes.short_list.Goals as goal

pub push_bad-requires : goal.push_bad-requires
push_bad-requires c =
    let few : length (bads c.args.whys.now 0 c.loop-cloud.cloud) ≤ c.loop-cloud.cloud = omega (arith, bads_few c.args.whys.now 0 (c.loop-cloud.cloud - 0)) in
    omega (arith, few, ap length c.loop-cloud.invariant, c.loop-cloud-test.true, c.requires)

pub loop-cloud-preserved : goal.loop-cloud-preserved
loop-cloud-preserved c = bad_one c.args.whys.now c.loop-cloud.cloud _ _ _ c.loop-cloud.invariant c.why_of.ensures c.push_bad.ensures

pub returns : goal.returns
returns c =
    let all : c.loop-cloud.cloud ≡ c.args.width = omega (arith, c.loop-cloud-test.false, c.loop-cloud.auto.cloud-end) in
    c.loop-cloud.invariant ∙ ap (bads c.args.whys.now 0) all
