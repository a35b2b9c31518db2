use Rattle.std.proofs.Common.{List, String, Global, sym, subst}
use Rattle.std.specs.Result.{IfOk}
use Rattle.nc_memory.specs.declared.record.Torn.{Torn}
use Rattle.nc_memory.specs.Memory.{width_of}
use Rattle.nc_drive.specs.declared.event.Event.{Event}
use Rattle.nc_drive.specs.declared.event.Event.TheVariants.{Run, Stop}
use Rattle.nc_drive.specs.Driving.{EventFits, Happens}
use Rattle.nc_drive.proofs.driving.happen.Goals as goal

pub returns-in-Run : goal.returns-in-Run
returns-in-Run g c = record {
  happens = subst (λ (e : Event). IfOk c.run_event.result (Happens e c.args.fleet.now c.run_event.new.fleet)) (sym c.in-Run.is)
      (subst (λ (words : List (String Global)). IfOk c.run_event.result (Happens (Run words c.in-Run.input) c.args.fleet.now c.run_event.new.fleet)) c.items.ensures c.run_event.ensures.happens);
}

pub returns-in-Stop : goal.returns-in-Stop
returns-in-Stop g c = record {
  happens = subst (λ (e : Event). IfOk c.stop_event.result (Happens e c.args.fleet.now c.stop_event.new.fleet)) (sym c.in-Stop.is)
      (subst (λ (words : List (String Global)). IfOk c.stop_event.result (Happens (Stop words c.in-Stop.input c.in-Stop.round c.in-Stop.fates) c.args.fleet.now c.stop_event.new.fleet)) c.items-in-Stop.ensures
      (subst (λ (fates : List Torn). IfOk c.stop_event.result (Happens (Stop c.items-in-Stop.result.now c.in-Stop.input c.in-Stop.round fates) c.args.fleet.now c.stop_event.new.fleet)) c.items-in-Stop-2.ensures
      c.stop_event.ensures.happens));
}

pub returns-in-Lose : goal.returns-in-Lose
returns-in-Lose g c = record {
  happens = subst (λ (e : Event). IfOk c.lose_event.result (Happens e c.args.fleet.now c.lose_event.new.fleet)) (sym c.in-Lose.is) c.lose_event.ensures.happens;
}

pub lose_event-requires : goal.lose_event-requires
lose_event-requires g c = record { within = subst (λ (e : Event). EventFits (width_of c.args.fleet.now) e) c.in-Lose.is c.requires.fits }
