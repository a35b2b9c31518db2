use Rattle.std.proofs.Common.{List, OnOk, ◌∙◌, refl, subst}
use Rattle.nc_cloud.specs.Contents.{Write}
use Rattle.nc_cloud.specs.Images.{Image, Written}
use Rattle.nc_cloud.specs.Stopping.{Keeps}
use Rattle.nc_settle.proofs.SettleWrites.{jobs_ascend, jobs_row}
use Rattle.nc_settle.specs.Stops.RoundStopped.{unmade}
use Rattle.nc_settle.proofs.SettleStops.{round_stopped}
use Rattle.nc_settle.proofs.settling.spread.Goals as goal

pub write_row-requires-clause-clouds : goal.write_row-requires-clause-clouds
write_row-requires-clause-clouds g c =
    jobs_ascend (g.F.Fleet.clouds c.args.fleet.now) c.args.name.now c.args.view.now c.args.meta.now c.in-Ok.jobs.items
    (jobs_row (g.F.Fleet.clouds c.args.fleet.now) _ _ c.args.name.now c.args.view.now c.args.meta.now _ c.in-Ok.jobs.items c.in-Ok.ensures.writes (c.width.ensures.width ∙ c.requires.width) c.lacking.ensures c.requires.width)

pub returns-in-Ok-clause-done : goal.returns-in-Ok-clause-done
returns-in-Ok-clause-done g c told =
    subst (λ (ps : List Write). OnOk c.write_row.result (Written ps (g.F.Fleet.held c.args.fleet.now) (g.F.Fleet.held c.write_row.new.fleet)))
    (jobs_row (g.F.Fleet.clouds c.args.fleet.now) _ _ c.args.name.now c.args.view.now c.args.meta.now _ c.in-Ok.jobs.items c.in-Ok.ensures.writes (c.width.ensures.width ∙ c.requires.width) c.lacking.ensures c.requires.width)
    (c.write_row.ensures.wrote.1.done told)

pub returns-in-Ok-clause-keeps : goal.returns-in-Ok-clause-keeps
returns-in-Ok-clause-keeps g c told =
    subst (λ (ps : List Write). Keeps g.F.Fleet c.args.fleet.now c.write_row.new.fleet (Image ps (g.F.Fleet.held c.args.fleet.now)))
    (jobs_row (g.F.Fleet.clouds c.args.fleet.now) _ _ c.args.name.now c.args.view.now c.args.meta.now _ c.in-Ok.jobs.items c.in-Ok.ensures.writes (c.width.ensures.width ∙ c.requires.width) c.lacking.ensures c.requires.width)
    (c.write_row.ensures.wrote.1.keeps told)

pub returns-in-Ok-clause-stopped : goal.returns-in-Ok-clause-stopped
returns-in-Ok-clause-stopped g c = round_stopped _ c.write_row.ensures.wrote.1

pub returns-in-Err-clause-stopped : goal.returns-in-Err-clause-stopped
returns-in-Err-clause-stopped g c = unmade refl refl
