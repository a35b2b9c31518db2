use Rattle.std.proofs.Common.{List, ℕ, subst}
use Rattle.nc_name.specs.Names.{IsName}
use Rattle.nc_repair.proofs.DoneLaws.{did_alone, did_begin, did_cause, did_clean, did_does, did_few, did_fits, did_gets, did_good, did_good_chunks, did_holds, did_keep, did_kept, did_made, did_not_worn, did_right, did_stop, did_worn}
use Rattle.nc_repair.proofs.repairing.repair_one.Goals as goal

pub returns-clause-did : goal.returns-clause-did
returns-clause-did g c = c.repair_in_turn.ensures.did

pub returns-clause-fits : goal.returns-clause-fits
returns-clause-fits g c = did_fits g.F.Fleet c.args.name.now c.args.before.now c.args.plan.now c.args.lost c.args.good.now c.args.fleet.now c.repair_in_turn.new.fleet c.repair_in_turn.result c.repair_in_turn.ensures.did

pub returns-clause-begins : goal.returns-clause-begins
returns-clause-begins g c told =
    did_begin g.F.Fleet c.args.name.now c.args.before.now c.args.plan.now c.args.lost c.args.good.now c.args.fleet.now c.repair_in_turn.new.fleet c.repair_in_turn.result told (subst (λ (l : List ℕ). IsName l) c.bytes-told.ensures.same c.bytes-told.ensures.name) c.told_plan.ensures c.requires.lost
    c.requires.live c.repair_in_turn.ensures.did

pub returns-clause-does : goal.returns-clause-does
returns-clause-does g c told =
    did_does g.F.Fleet c.args.name.now c.args.before.now c.args.plan.now c.args.lost c.args.good.now c.args.fleet.now c.repair_in_turn.new.fleet c.repair_in_turn.result told (subst (λ (l : List ℕ). IsName l) c.bytes-told.ensures.same c.bytes-told.ensures.name) c.told_plan.ensures c.requires.lost
    c.requires.live c.repair_in_turn.ensures.did

pub returns-clause-alone : goal.returns-clause-alone
returns-clause-alone g c told = did_alone g.F.Fleet c.args.name.now c.args.before.now c.args.plan.now c.args.lost c.args.good.now c.args.fleet.now c.repair_in_turn.new.fleet c.repair_in_turn.result told c.repair_in_turn.ensures.did

pub returns-clause-worn : goal.returns-clause-worn
returns-clause-worn g c worn = did_worn g.F.Fleet c.args.name.now c.args.before.now c.args.plan.now c.args.lost c.args.good.now c.args.fleet.now c.repair_in_turn.new.fleet c.repair_in_turn.result c.repair_in_turn.ensures.did worn

pub returns-clause-not_worn : goal.returns-clause-not_worn
returns-clause-not_worn g c is = did_not_worn g.F.Fleet c.args.name.now c.args.before.now c.args.plan.now c.args.lost c.args.good.now c.args.fleet.now c.repair_in_turn.new.fleet c.repair_in_turn.result c.repair_in_turn.ensures.did is

pub returns-clause-clouds : goal.returns-clause-clouds
returns-clause-clouds g c = (did_keep g.F.Fleet c.args.name.now c.args.before.now c.args.plan.now c.args.lost c.args.good.now c.args.fleet.now c.repair_in_turn.new.fleet c.repair_in_turn.result c.repair_in_turn.ensures.did).clouds

pub returns-clause-grows : goal.returns-clause-grows
returns-clause-grows g c = (did_keep g.F.Fleet c.args.name.now c.args.before.now c.args.plan.now c.args.lost c.args.good.now c.args.fleet.now c.repair_in_turn.new.fleet c.repair_in_turn.result c.repair_in_turn.ensures.did).grows

pub returns-clause-slips : goal.returns-clause-slips
returns-clause-slips g c = (did_keep g.F.Fleet c.args.name.now c.args.before.now c.args.plan.now c.args.lost c.args.good.now c.args.fleet.now c.repair_in_turn.new.fleet c.repair_in_turn.result c.repair_in_turn.ensures.did).slips

pub returns-clause-time : goal.returns-clause-time
returns-clause-time g c = (did_keep g.F.Fleet c.args.name.now c.args.before.now c.args.plan.now c.args.lost c.args.good.now c.args.fleet.now c.repair_in_turn.new.fleet c.repair_in_turn.result c.repair_in_turn.ensures.did).time

pub returns-clause-stops : goal.returns-clause-stops
returns-clause-stops g c told = did_stop g.F.Fleet c.args.name.now c.args.before.now c.args.plan.now c.args.lost c.args.good.now c.args.fleet.now c.repair_in_turn.new.fleet c.repair_in_turn.result told c.requires.lost c.repair_in_turn.ensures.did

pub returns-clause-gets : goal.returns-clause-gets
returns-clause-gets g c = did_gets g.F.Fleet c.args.name.now c.args.before.now c.args.plan.now c.args.lost c.args.good.now c.args.fleet.now c.repair_in_turn.new.fleet c.repair_in_turn.result c.requires.lost c.repair_in_turn.ensures.did

pub returns-clause-right : goal.returns-clause-right
returns-clause-right g c told = did_right g.F.Fleet c.args.name.now c.args.before.now c.args.plan.now c.args.lost c.args.good.now c.args.fleet.now c.repair_in_turn.new.fleet c.repair_in_turn.result told c.told_plan.ensures c.requires.live c.repair_in_turn.ensures.did

pub returns-clause-cause : goal.returns-clause-cause
returns-clause-cause g c = did_cause g.F.Fleet c.args.name.now c.args.before.now c.args.plan.now c.args.lost c.args.good.now c.args.fleet.now c.repair_in_turn.new.fleet c.repair_in_turn.result c.repair_in_turn.ensures.did

pub returns-clause-clean : goal.returns-clause-clean
returns-clause-clean g c exact = did_clean g.F.Fleet c.args.name.now c.args.before.now c.args.plan.now c.args.lost c.args.good.now c.args.fleet.now c.repair_in_turn.new.fleet c.repair_in_turn.result exact c.repair_in_turn.ensures.did

pub returns-clause-kept : goal.returns-clause-kept
returns-clause-kept g c = did_kept g.F.Fleet c.args.name.now c.args.before.now c.args.plan.now c.args.lost c.args.good.now c.args.fleet.now c.repair_in_turn.new.fleet c.repair_in_turn.result c.repair_in_turn.ensures.did

pub returns-clause-good : goal.returns-clause-good
returns-clause-good g c told = did_good g.F.Fleet c.args.name.now c.args.before.now c.args.plan.now c.args.lost c.args.good.now c.args.fleet.now c.repair_in_turn.new.fleet c.repair_in_turn.result told c.requires.lost c.repair_in_turn.ensures.did

pub returns-clause-made : goal.returns-clause-made
returns-clause-made g c = did_made g.F.Fleet c.args.name.now c.args.before.now c.args.plan.now c.args.lost c.args.good.now c.args.fleet.now c.repair_in_turn.new.fleet c.repair_in_turn.result c.repair_in_turn.ensures.did

pub returns-clause-gets_few : goal.returns-clause-gets_few
returns-clause-gets_few g c = did_few g.F.Fleet c.args.name.now c.args.before.now c.args.plan.now c.args.lost c.args.good.now c.args.fleet.now c.repair_in_turn.new.fleet c.repair_in_turn.result c.requires.lost c.repair_in_turn.ensures.did

pub returns-clause-holds : goal.returns-clause-holds
returns-clause-holds g c told = did_holds g.F.Fleet c.args.name.now c.args.before.now c.args.plan.now c.args.lost c.args.good.now c.args.fleet.now c.repair_in_turn.new.fleet c.repair_in_turn.result told c.repair_in_turn.ensures.did

pub returns-clause-good_chunks : goal.returns-clause-good_chunks
returns-clause-good_chunks g c told = did_good_chunks g.F.Fleet c.args.name.now c.args.before.now c.args.plan.now c.args.lost c.args.good.now c.args.fleet.now c.repair_in_turn.new.fleet c.repair_in_turn.result told c.requires.wide c.requires.lost c.requires.live c.repair_in_turn.ensures.did
