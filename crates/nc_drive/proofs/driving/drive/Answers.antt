use Rattle.std.proofs.Common.{ℕ, ◌+◌, List, sym, subst}
use Rattle.nc_memory.specs.Memory.{width_of}
use Rattle.nc_drive.specs.declared.event.Event.{Event}
use Rattle.nc_drive.specs.declared.outcome.Outcome.{Outcome}
use Rattle.nc_drive.specs.Driving.{EventFits}
use Rattle.nc_drive.proofs.DriveLaws.{SoFar, so_far_all, so_far_more, so_far_none}
use Rattle.nc_drive.proofs.driving.drive.Goals as goal

pub returns : goal.returns
returns g c = record { driven = so_far_all c.args.events.now c.loop-event.event-index c.args.fleet.now c.loop-event.fleet c.loop-event.outcomes c.loop-event-test.false c.loop-event.invariant }

pub loop-event-init : goal.loop-event-init
loop-event-init g l = subst (λ (os : List Outcome). SoFar l.args.events.now 0 l.args.fleet.now l.args.fleet.now os) (sym l.new-outcomes.ensures) (so_far_none l.args.events.now l.args.fleet.now)

pub loop-event-preserved : goal.loop-event-preserved
loop-event-preserved g l =
    subst (λ (os : List Outcome). SoFar l.args.events.now (l.loop-event.event-index + 1) l.args.fleet.now l.happen.new.fleet os) (sym l.in_ok-push.ensures.ok)
    (so_far_more l.args.events.now l.loop-event.event-index l.event-item.result l.args.fleet.now l.loop-event.fleet l.happen.new.fleet l.loop-event.outcomes l.in_ok-happen.field-0
    l.loop-event-test.true (sym l.event-item.is) l.loop-event.invariant l.in_ok-happen.ensures.happens)

pub happen-requires : goal.happen-requires
happen-requires g c = (
  c.type_bounds.sync-R,
  subst (λ (n : ℕ). EventFits n c.event-item.result) (sym c.loop-event.invariant.width)
      (subst (λ (e : Event). EventFits (width_of c.args.fleet.now) e) (sym c.event-item.is) (c.requires.fits c.loop-event.event-index c.event-item.result c.loop-event-test.true)),
)
