use Rattle.std.proofs.Common.{◌<◌, ◌≤◌, ◌∙◌, ℕ, refl, sym, ap, subst, arith}
use Rattle.nc_cloud.specs.Contents.{Contents}
use Rattle.nc_cloud.specs.Deciding.{HasCause, IsFirstToRise}
use Rattle.nc_cloud.specs.declared.deciding.RoundFault.{RoundFault}
use Rattle.nc_cloud.specs.declared.deciding.RoundFault.TheVariants.{Cloud, Memory}
use Rattle.nc_cloud.proofs.Counts.{later_round}
use Rattle.nc_cloud.proofs.Time.{goes_then}
use Rattle.nc_state.specs.Holding.{HeldByNone}
use Rattle.nc_settle.proofs.OnlyMetas.{alone_by, looked_chunks, spread_chunks}
use Rattle.nc_settle.proofs.Seen.{meta_fits, none_held, nothing_misplaced, undisputed}
use Rattle.nc_settle.proofs.SettleFaults.{refused_held, seen_cause, seen_clean}
use Rattle.nc_settle.proofs.SettleStates.{looked_begins, none_comes, spread_begins, spread_comes, spread_settled}
use Rattle.nc_settle.proofs.SettleWrites.{seen_top}
use Rattle.nc_settle.specs.Stops.{RoundStopped}
use Rattle.nc_settle.specs.Stops.SettleStopped.{looking, writing}
use Rattle.nc_settle.specs.declared.settled.SettleFault.TheVariants as fault
use Rattle.nc_settle.proofs.SettleStops.{look_stopped}
use Rattle.nc_settle.proofs.settling.settle.Goals as goal

pub returns-in_err-view-clause-begins : goal.returns-in_err-view-clause-begins
returns-in_err-view-clause-begins g c told = looked_begins g.F.Fleet _ _ c.look.ensures.valid c.look.ensures.looked.held c.look.ensures.stops

pub returns-in_err-view-clause-chunks : goal.returns-in_err-view-clause-chunks
returns-in_err-view-clause-chunks g c told = looked_chunks g.F.Fleet _ c.look.ensures.looked.held c.look.ensures.stops

pub returns-in_err-view-clause-alone : goal.returns-in_err-view-clause-alone
returns-in_err-view-clause-alone g c told = alone_by g.F.Fleet _ (returns-in_err-view-clause-chunks g c told)

pub returns-in_err-view-clause-time : goal.returns-in_err-view-clause-time
returns-in_err-view-clause-time g c = c.look.ensures.stops.time

pub returns-in-Err-clause-begins : goal.returns-in-Err-clause-begins
returns-in-Err-clause-begins g c told = looked_begins g.F.Fleet _ _ c.look.ensures.valid c.look.ensures.looked.held c.look.ensures.stops

pub returns-in-Err-clause-chunks : goal.returns-in-Err-clause-chunks
returns-in-Err-clause-chunks g c told = looked_chunks g.F.Fleet _ c.look.ensures.looked.held c.look.ensures.stops

pub returns-in-Err-clause-alone : goal.returns-in-Err-clause-alone
returns-in-Err-clause-alone g c told = alone_by g.F.Fleet _ (returns-in-Err-clause-chunks g c told)

pub returns-in-Err-clause-time : goal.returns-in-Err-clause-time
returns-in-Err-clause-time g c = c.look.ensures.stops.time

pub returns-in-None-clause-begins : goal.returns-in-None-clause-begins
returns-in-None-clause-begins g c told = looked_begins g.F.Fleet _ _ c.look.ensures.valid c.look.ensures.looked.held c.look.ensures.stops

pub returns-in-None-clause-chunks : goal.returns-in-None-clause-chunks
returns-in-None-clause-chunks g c told = looked_chunks g.F.Fleet _ c.look.ensures.looked.held c.look.ensures.stops

pub returns-in-None-clause-alone : goal.returns-in-None-clause-alone
returns-in-None-clause-alone g c told = alone_by g.F.Fleet _ (returns-in-None-clause-chunks g c told)

pub returns-in-None-clause-time : goal.returns-in-None-clause-time
returns-in-None-clause-time g c = c.look.ensures.stops.time

pub returns-in-Err-clause-refused : goal.returns-in-Err-clause-refused
returns-in-Err-clause-refused g c told = refused_held _ _ _ _ c.requires.wide c.requires.narrow c.look.ensures.valid (c.in_ok-view.ensures.told told) c.in_ok-view.ensures.width _ c.in-Err.ensures.fault

pub returns-in-Err-clause-kept : goal.returns-in-Err-clause-kept
returns-in-Err-clause-kept g c seen = c.look.ensures.looked.held

pub returns-in-Err-clause-cause : goal.returns-in-Err-clause-cause
returns-in-Err-clause-cause g c = seen_cause _ _ c.in_ok-view.ensures.width _ _ _ c.in_ok-view.ensures.failed c.in_ok-view.ensures.exact _ c.in-Err.ensures.fault

pub returns-in-None-clause-top : goal.returns-in-None-clause-top
returns-in-None-clause-top g c told = none_held _ _ _ _ c.requires.wide c.requires.narrow c.look.ensures.valid (c.in_ok-view.ensures.told told) c.in_ok-view.ensures.width.first c.in-Ok.ensures.one.answered c.in-None.ensures.none

pub returns-in-None-clause-nothing_misplaced : goal.returns-in-None-clause-nothing_misplaced
returns-in-None-clause-nothing_misplaced g c told = nothing_misplaced _ _ _ _ c.requires.wide c.requires.narrow c.look.ensures.valid (c.in_ok-view.ensures.told told) c.in_ok-view.ensures.width.first c.in-Ok.ensures.one.answered c.in-Ok.ensures.one.nothing_misplaced

pub returns-in-None-clause-settled : goal.returns-in-None-clause-settled
returns-in-None-clause-settled g c told = subst (λ (H : Contents). HeldByNone (g.F.Fleet.clouds c.args.fleet.now) H c.args.name.now) (sym c.look.ensures.looked.held)
    (none_held _ _ _ _ c.requires.wide c.requires.narrow c.look.ensures.valid (c.in_ok-view.ensures.told told) c.in_ok-view.ensures.width.first c.in-Ok.ensures.one.answered c.in-None.ensures.none)

pub returns-in-None-clause-comes : goal.returns-in-None-clause-comes
returns-in-None-clause-comes g c told = none_comes g.F.Fleet _ _ c.look.ensures.valid c.look.ensures.looked.held c.look.ensures.stops (none_held _ _ _ _ c.requires.wide c.requires.narrow c.look.ensures.valid (c.in_ok-view.ensures.told told) c.in_ok-view.ensures.width.first c.in-Ok.ensures.one.answered c.in-None.ensures.none)

pub returns-in-None-clause-clean : goal.returns-in-None-clause-clean
returns-in-None-clause-clean g c exact = seen_clean _ _ c.in_ok-view.ensures.width _ _ _ c.in_ok-view.ensures.failed c.in_ok-view.ensures.exact c.in-Ok.ensures.one.answered exact

pub returns-in-Ok-spread-clause-begins : goal.returns-in-Ok-spread-clause-begins
returns-in-Ok-spread-clause-begins g c told = spread_begins g.F.Fleet _ _ c.requires.wide c.requires.narrow c.look.ensures.valid c.look.ensures.looked.held c.look.ensures.stops _ (c.in_ok-view.ensures.told told) c.in_ok-view.ensures.width c.in-Ok.ensures.one c.in-Some.top.cloud c.in-Some.top.meta.now c.in-Some.ensures.some _ c.look.ensures.looked.clouds (c.spread.ensures.keeps told)

pub returns-in-Ok-spread-clause-chunks : goal.returns-in-Ok-spread-clause-chunks
returns-in-Ok-spread-clause-chunks g c told = spread_chunks g.F.Fleet _ c.look.ensures.looked.held c.look.ensures.stops (g.F.Fleet.clouds c.look.new.fleet) c.in_ok-view.view c.in-Some.top.meta.now (c.spread.ensures.keeps told)

pub returns-in-Ok-spread-clause-alone : goal.returns-in-Ok-spread-clause-alone
returns-in-Ok-spread-clause-alone g c told = alone_by g.F.Fleet _ (returns-in-Ok-spread-clause-chunks g c told)

pub returns-in-Ok-spread-clause-clouds : goal.returns-in-Ok-spread-clause-clouds
returns-in-Ok-spread-clause-clouds g c = c.spread.ensures.clouds ∙ c.look.ensures.looked.clouds

pub returns-in-Ok-spread-clause-grows : goal.returns-in-Ok-spread-clause-grows
returns-in-Ok-spread-clause-grows g c k = let low : g.F.Fleet.faults c.args.fleet.now k ≤ g.F.Fleet.faults c.look.new.fleet k = c.look.ensures.looked.grows k in
    let high : g.F.Fleet.faults c.look.new.fleet k ≤ g.F.Fleet.faults c.spread.new.fleet k = c.spread.ensures.grows k in
    omega (arith, low, high)

pub returns-in-Ok-spread-clause-gets : goal.returns-in-Ok-spread-clause-gets
returns-in-Ok-spread-clause-gets g c k = ap (λ (counts : ℕ → ℕ). counts k) c.spread.ensures.gets ∙ c.look.ensures.gets k

pub returns-in-Ok-spread-clause-time : goal.returns-in-Ok-spread-clause-time
returns-in-Ok-spread-clause-time g c = goes_then c.look.ensures.stops.time c.spread.ensures.time

pub returns-in-Err-Cloud-clause-begins : goal.returns-in-Err-Cloud-clause-begins
returns-in-Err-Cloud-clause-begins g c told = spread_begins g.F.Fleet _ _ c.requires.wide c.requires.narrow c.look.ensures.valid c.look.ensures.looked.held c.look.ensures.stops _ (c.in_ok-view.ensures.told told) c.in_ok-view.ensures.width c.in-Ok.ensures.one c.in-Some.top.cloud c.in-Some.top.meta.now c.in-Some.ensures.some _ c.look.ensures.looked.clouds (c.spread.ensures.keeps told)

pub returns-in-Err-Cloud-clause-chunks : goal.returns-in-Err-Cloud-clause-chunks
returns-in-Err-Cloud-clause-chunks g c told = spread_chunks g.F.Fleet _ c.look.ensures.looked.held c.look.ensures.stops (g.F.Fleet.clouds c.look.new.fleet) c.in_ok-view.view c.in-Some.top.meta.now (c.spread.ensures.keeps told)

pub returns-in-Err-Cloud-clause-alone : goal.returns-in-Err-Cloud-clause-alone
returns-in-Err-Cloud-clause-alone g c told = alone_by g.F.Fleet _ (returns-in-Err-Cloud-clause-chunks g c told)

pub returns-in-Err-Cloud-clause-clouds : goal.returns-in-Err-Cloud-clause-clouds
returns-in-Err-Cloud-clause-clouds g c = c.spread.ensures.clouds ∙ c.look.ensures.looked.clouds

pub returns-in-Err-Cloud-clause-grows : goal.returns-in-Err-Cloud-clause-grows
returns-in-Err-Cloud-clause-grows g c k = let low : g.F.Fleet.faults c.args.fleet.now k ≤ g.F.Fleet.faults c.look.new.fleet k = c.look.ensures.looked.grows k in
    let high : g.F.Fleet.faults c.look.new.fleet k ≤ g.F.Fleet.faults c.spread.new.fleet k = c.spread.ensures.grows k in
    omega (arith, low, high)

pub returns-in-Err-Cloud-clause-gets : goal.returns-in-Err-Cloud-clause-gets
returns-in-Err-Cloud-clause-gets g c k = ap (λ (counts : ℕ → ℕ). counts k) c.spread.ensures.gets ∙ c.look.ensures.gets k

pub returns-in-Err-Cloud-clause-time : goal.returns-in-Err-Cloud-clause-time
returns-in-Err-Cloud-clause-time g c = goes_then c.look.ensures.stops.time c.spread.ensures.time

pub returns-clause-begins : goal.returns-clause-begins
returns-clause-begins g c told = spread_begins g.F.Fleet _ _ c.requires.wide c.requires.narrow c.look.ensures.valid c.look.ensures.looked.held c.look.ensures.stops _ (c.in_ok-view.ensures.told told) c.in_ok-view.ensures.width c.in-Ok.ensures.one c.in-Some.top.cloud c.in-Some.top.meta.now c.in-Some.ensures.some _ c.look.ensures.looked.clouds (c.spread.ensures.keeps told)

pub returns-clause-chunks : goal.returns-clause-chunks
returns-clause-chunks g c told = spread_chunks g.F.Fleet _ c.look.ensures.looked.held c.look.ensures.stops (g.F.Fleet.clouds c.look.new.fleet) c.in_ok-view.view c.in-Some.top.meta.now (c.spread.ensures.keeps told)

pub returns-clause-alone : goal.returns-clause-alone
returns-clause-alone g c told = alone_by g.F.Fleet _ (returns-clause-chunks g c told)

pub returns-clause-clouds : goal.returns-clause-clouds
returns-clause-clouds g c = c.spread.ensures.clouds ∙ c.look.ensures.looked.clouds

pub returns-clause-grows : goal.returns-clause-grows
returns-clause-grows g c k = let low : g.F.Fleet.faults c.args.fleet.now k ≤ g.F.Fleet.faults c.look.new.fleet k = c.look.ensures.looked.grows k in
    let high : g.F.Fleet.faults c.look.new.fleet k ≤ g.F.Fleet.faults c.spread.new.fleet k = c.spread.ensures.grows k in
    omega (arith, low, high)

pub returns-clause-gets : goal.returns-clause-gets
returns-clause-gets g c k = ap (λ (counts : ℕ → ℕ). counts k) c.spread.ensures.gets ∙ c.look.ensures.gets k

pub returns-clause-time : goal.returns-clause-time
returns-clause-time g c = goes_then c.look.ensures.stops.time c.spread.ensures.time

pub returns-in-Ok-spread-clause-top : goal.returns-in-Ok-spread-clause-top
returns-in-Ok-spread-clause-top g c told = seen_top _ _ _ _ c.requires.wide c.requires.narrow c.look.ensures.valid (c.in_ok-view.ensures.told told) c.in_ok-view.ensures.width c.in-Ok.ensures.one c.in-Some.top.cloud c.in-Some.top.meta.now c.in-Some.ensures.some

pub returns-in-Ok-spread-clause-undisputed : goal.returns-in-Ok-spread-clause-undisputed
returns-in-Ok-spread-clause-undisputed g c told = undisputed _ _ _ _ c.requires.wide c.requires.narrow c.look.ensures.valid (c.in_ok-view.ensures.told told) c.in_ok-view.ensures.width.first c.in-Ok.ensures.one.answered c.in-Ok.ensures.one.no_conflict c.in-Some.top.cloud c.in-Some.top.meta.now c.in-Some.ensures.some

pub returns-in-Ok-spread-clause-nothing_misplaced : goal.returns-in-Ok-spread-clause-nothing_misplaced
returns-in-Ok-spread-clause-nothing_misplaced g c told = nothing_misplaced _ _ _ _ c.requires.wide c.requires.narrow c.look.ensures.valid (c.in_ok-view.ensures.told told) c.in_ok-view.ensures.width.first c.in-Ok.ensures.one.answered c.in-Ok.ensures.one.nothing_misplaced

pub returns-in-Ok-spread-clause-settled : goal.returns-in-Ok-spread-clause-settled
returns-in-Ok-spread-clause-settled g c told = spread_settled g.F.Fleet _ _ c.requires.wide c.requires.narrow c.look.ensures.valid c.look.ensures.looked.held c.look.ensures.stops _ (c.in_ok-view.ensures.told told) c.in_ok-view.ensures.width c.in-Ok.ensures.one c.in-Some.top.cloud c.in-Some.top.meta.now c.in-Some.ensures.some _ c.look.ensures.looked.clouds (c.spread.ensures.keeps told) (c.in-Ok-spread.ensures.done told)

pub returns-in-Ok-spread-clause-fits : goal.returns-in-Ok-spread-clause-fits
returns-in-Ok-spread-clause-fits g c = meta_fits _ _ c.in_ok-view.ensures.metas c.in-Some.top.cloud _ (let low : c.in-Some.top.cloud < g.F.Fleet.clouds c.args.fleet.now = omega (arith, c.in_ok-view.ensures.width.first, c.in-Some.ensures.some.in_width) in low) c.in-Some.ensures.some.has

pub returns-in-Ok-spread-clause-comes : goal.returns-in-Ok-spread-clause-comes
returns-in-Ok-spread-clause-comes g c told = spread_comes g.F.Fleet _ _ c.requires.wide c.requires.narrow c.look.ensures.valid c.look.ensures.looked.held c.look.ensures.stops _ (c.in_ok-view.ensures.told told) c.in_ok-view.ensures.width c.in-Ok.ensures.one c.in-Some.top.cloud c.in-Some.top.meta.now c.in-Some.ensures.some _ c.look.ensures.looked.clouds (c.spread.ensures.keeps told) (c.in-Ok-spread.ensures.done told)

pub returns-in-Ok-spread-clause-clean : goal.returns-in-Ok-spread-clause-clean
returns-in-Ok-spread-clause-clean g c exact k = c.in-Ok-spread.ensures.counts.clean exact k ∙ seen_clean _ _ c.in_ok-view.ensures.width _ _ _ c.in_ok-view.ensures.failed c.in_ok-view.ensures.exact c.in-Ok.ensures.one.answered exact k

pub returns-in-Err-Cloud-clause-cause : goal.returns-in-Err-Cloud-clause-cause
returns-in-Err-Cloud-clause-cause g c =
    let all : HasCause g.F.Fleet.counts_exactly (g.F.Fleet.faults c.args.fleet.now) (g.F.Fleet.faults c.spread.new.fleet) (Cloud c.in-Err-Cloud.cloud) =
    subst (λ (f : RoundFault). HasCause g.F.Fleet.counts_exactly (g.F.Fleet.faults c.args.fleet.now) (g.F.Fleet.faults c.spread.new.fleet) f) c.in-Err-Cloud.field-0-is
    (later_round g.F.Fleet.counts_exactly (g.F.Fleet.faults c.args.fleet.now) (g.F.Fleet.faults c.look.new.fleet) (g.F.Fleet.faults c.spread.new.fleet) c.look.ensures.looked.grows
    (seen_clean _ _ c.in_ok-view.ensures.width _ _ _ c.in_ok-view.ensures.failed c.in_ok-view.ensures.exact c.in-Ok.ensures.one.answered) _ c.in-Err-Cloud.ensures.counts.cause) in
    subst (λ (k : ℕ). IsFirstToRise g.F.Fleet.counts_exactly (g.F.Fleet.faults c.args.fleet.now) (g.F.Fleet.faults c.spread.new.fleet) k) (sym c.in-Err-Cloud.cloud-is) all

pub returns-in-Ok-spread-clause-slips : goal.returns-in-Ok-spread-clause-slips
returns-in-Ok-spread-clause-slips g c = c.spread.ensures.slips ∙ c.look.ensures.looked.slips

pub returns-in-Err-Cloud-clause-slips : goal.returns-in-Err-Cloud-clause-slips
returns-in-Err-Cloud-clause-slips g c = c.spread.ensures.slips ∙ c.look.ensures.looked.slips

pub returns-clause-slips : goal.returns-clause-slips
returns-clause-slips g c = c.spread.ensures.slips ∙ c.look.ensures.looked.slips

pub returns-in_err-view-clause-stopped : goal.returns-in_err-view-clause-stopped
returns-in_err-view-clause-stopped g c = look_stopped _ c.look.ensures.looked

pub returns-in-Err-clause-stopped : goal.returns-in-Err-clause-stopped
returns-in-Err-clause-stopped g c = looking c.look.ensures.looked

pub returns-in-Err-Cloud-clause-stopped : goal.returns-in-Err-Cloud-clause-stopped
returns-in-Err-Cloud-clause-stopped g c = writing c.look.new.fleet (Cloud c.in-Err-Cloud.cloud) c.look.ensures.looked
    (subst (λ (f : RoundFault). RoundStopped g.F.Fleet c.look.new.fleet c.spread.new.fleet f) c.in-Err-Cloud.field-0-is c.in-Err-Cloud.ensures.stopped)
    (ap (λ (k : ℕ). fault.Cloud k) c.in-Err-Cloud.cloud-is)

pub returns-clause-stopped : goal.returns-clause-stopped
returns-clause-stopped g c = writing c.look.new.fleet Memory c.look.ensures.looked
    (subst (λ (f : RoundFault). RoundStopped g.F.Fleet c.look.new.fleet c.spread.new.fleet f) c.in-Err-Memory.field-0-is c.in-Err-Memory.ensures.stopped) refl
