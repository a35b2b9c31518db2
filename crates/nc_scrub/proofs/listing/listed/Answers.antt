use Rattle.nc_scrub.specs.Tables.{told}
use Rattle.nc_scrub.proofs.ListLaws.{cloud_listed, none_listed}
use Rattle.nc_scrub.proofs.listing.listed.Goals as goal

pub loop-cloud-init : goal.loop-cloud-init
loop-cloud-init c = none_listed (told c.args.metas.now c.args.zeros.now c.args.ones.now) _ c.new-flaws.ensures

pub loop-cloud-preserved : goal.loop-cloud-preserved
loop-cloud-preserved c = cloud_listed _ _ _ c.loop-cloud.cloud _ _ _ _ _ c.loop-cloud.invariant c.state_at.ensures c.state_at-in-loop-cloud.ensures c.state_at-in-loop-cloud-2.ensures c.in_ok-push_cloud.ensures
