use Rattle.std.proofs.Common.{◌≡◌, ◌∙◌, refl, ap, arith}
use Rattle.nc_names.specs.Listing.{named}
use Rattle.nc_state.specs.Clouds.{count_of}
use Rattle.nc_vault.proofs.BearingLaws.{counted_more}
use Rattle.nc_vault.proofs.bearing.count.Goals as goal

pub loop-cloud-preserved : goal.loop-cloud-preserved
loop-cloud-preserved c =
    counted_more (named c.args.failed.now) c.loop-cloud.cloud c.loop-cloud.count c.from-count.result (named c.args.failed.now c.loop-cloud.cloud) refl c.from-count.ensures c.loop-cloud.invariant

pub returns : goal.returns
returns c =
    let all : c.loop-cloud.cloud ≡ c.args.width = omega (arith, c.loop-cloud-test.false, c.loop-cloud.auto.cloud-end) in
    c.loop-cloud.invariant.0 ∙ ap (λ n. count_of n (named c.args.failed.now)) all
