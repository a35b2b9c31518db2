use Rattle.std.proofs.Common.{◌≡◌, ◌≤◌, ◌<◌, ℕ, arith}
use Rattle.nc_names.proofs.Lists.{below_more, below_none}
use Rattle.nc_names.proofs.listing.list_clouds.Goals as goal

pub loop-cloud-init : goal.loop-cloud-init
loop-cloud-init g c = below_none c.args.fleet.now c.args.failed.now c.new-names.result.items c.told-failed c.requires.none c.new-names.ensures.items

pub loop-cloud-preserved : goal.loop-cloud-preserved
loop-cloud-preserved g c =
    let width : ℕ = g.F.Fleet.clouds c.args.fleet.now in
    let narrow : width ≤ 10 = c.requires.narrow in
    let is : c.width-width.result ≡ width = c.width-width.ensures in
    let low : c.loop-cloud.cloud < 10 = omega (arith, c.loop-cloud-test.true, is, narrow) in
    below_more c.loop-cloud.cloud c.loop-cloud.failed c.loop-cloud.names.items c.list_one.new.names.items c.in_ok-failed.field-0 low c.loop-cloud.invariant c.in_ok-failed.ensures.lists c.list_one.ensures.listed
