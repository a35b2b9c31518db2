use Rattle.std.proofs.Common.{◌∙◌}
use Rattle.nc_settle.proofs.SettleFaults.{refused_held, seen_cause, seen_clean}
use Rattle.nc_scrub.proofs.ScrubLaws.{later_cloud, none_scrubbed, top_scrubbed}
use Rattle.nc_scrub.proofs.scrubbing.scrub_one.Goals as goal

pub returns-in-Err-clause-refuses : goal.returns-in-Err-clause-refuses
returns-in-Err-clause-refuses g c told = refused_held _ _ _ _ c.requires.wide c.requires.narrow c.look.ensures.valid (c.in_ok-view.ensures.told told) c.in_ok-view.ensures.width _ c.in-Err.ensures.fault

pub returns-in-Err-clause-counts : goal.returns-in-Err-clause-counts
returns-in-Err-clause-counts g c = seen_cause _ _ c.in_ok-view.ensures.width _ _ _ c.in_ok-view.ensures.failed c.in_ok-view.ensures.exact _ c.in-Err.ensures.fault

pub returns-in-None-clause-flaws : goal.returns-in-None-clause-flaws
returns-in-None-clause-flaws g c told = none_scrubbed _ _ _ _ c.requires.wide c.requires.narrow c.look.ensures.valid (c.in_ok-view.ensures.told told) c.in_ok-view.ensures.width c.in-Ok.ensures.one c.in-None.ensures.none _ c.new.ensures

pub returns-in-None-clause-clean : goal.returns-in-None-clause-clean
returns-in-None-clause-clean g c exact k = seen_clean _ _ c.in_ok-view.ensures.width _ _ _ c.in_ok-view.ensures.failed c.in_ok-view.ensures.exact c.in-Ok.ensures.one.answered exact k

pub returns-in-Ok-compare-clause-flaws : goal.returns-in-Ok-compare-clause-flaws
returns-in-Ok-compare-clause-flaws g c told =
    top_scrubbed _ _ _ _ c.requires.wide c.requires.narrow c.look.ensures.valid (c.in_ok-view.ensures.told told) c.in_ok-view.ensures.width c.in-Ok.ensures.one c.in-Some.top.cloud c.in-Some.top.meta.now c.in-Some.ensures.some _ _ _
    c.look.ensures.looked.clouds c.look.ensures.looked.held (c.in-Ok-compare.ensures.told told)

pub returns-in-Ok-compare-clause-clean : goal.returns-in-Ok-compare-clause-clean
returns-in-Ok-compare-clause-clean g c exact k =
    c.in-Ok-compare.ensures.counts.clean exact k ∙ seen_clean _ _ c.in_ok-view.ensures.width _ _ _ c.in_ok-view.ensures.failed c.in_ok-view.ensures.exact c.in-Ok.ensures.one.answered exact k

pub returns-in-Err-Cloud-clause-counts : goal.returns-in-Err-Cloud-clause-counts
returns-in-Err-Cloud-clause-counts g c =
    later_cloud g.F.Fleet.counts_exactly (g.F.Fleet.faults c.args.fleet.now) (g.F.Fleet.faults c.look.new.fleet) (g.F.Fleet.faults c.compare.new.fleet) c.look.ensures.looked.grows
    (seen_clean _ _ c.in_ok-view.ensures.width _ _ _ c.in_ok-view.ensures.failed c.in_ok-view.ensures.exact c.in-Ok.ensures.one.answered) c.in-Err-Cloud.cloud _ _ c.in-Err-Cloud.ensures.counts.cause c.in-Err-Cloud.field-0-is c.in-Err-Cloud.cloud-is
