use Rattle.nc_repair.proofs.RemakingLaws.{part_cause, part_clean, part_few, part_gets, part_good, part_long, part_looked, part_not_worn, part_of_file, part_stops, part_why}
use Rattle.nc_repair.proofs.remaking.remake_part.Goals as goal

pub returns-clause-of_file : goal.returns-clause-of_file
returns-clause-of_file g c told = part_of_file g.F.Fleet c.args.name.now c.args.live.now c.args.plan.now c.args.lost c.args.fleet.now c.remake.new.fleet c.remake.result c.remake.ensures.remade c.remake.ensures.not_remade told c.told_plan.ensures c.requires.live

pub returns-clause-long : goal.returns-clause-long
returns-clause-long g c = part_long g.F.Fleet c.args.name.now c.args.live.now c.args.plan.now c.args.lost c.args.fleet.now c.remake.new.fleet c.remake.result c.remake.ensures.remade c.remake.ensures.not_remade c.requires.wide

pub returns-clause-good : goal.returns-clause-good
returns-clause-good g c told = part_good g.F.Fleet c.args.name.now c.args.live.now c.args.plan.now c.args.lost c.args.fleet.now c.remake.new.fleet c.remake.result c.remake.ensures.remade c.remake.ensures.not_remade told c.requires.lost

pub returns-clause-why : goal.returns-clause-why
returns-clause-why g c told = part_why g.F.Fleet c.args.name.now c.args.live.now c.args.plan.now c.args.lost c.args.fleet.now c.remake.new.fleet c.remake.result c.remake.ensures.remade c.remake.ensures.not_remade told c.requires.lost

pub returns-clause-not_worn : goal.returns-clause-not_worn
returns-clause-not_worn g c = part_not_worn g.F.Fleet c.args.name.now c.args.live.now c.args.plan.now c.args.lost c.args.fleet.now c.remake.new.fleet c.remake.result c.remake.ensures.remade c.remake.ensures.not_remade

pub returns-clause-gets : goal.returns-clause-gets
returns-clause-gets g c = part_gets g.F.Fleet c.args.name.now c.args.live.now c.args.plan.now c.args.lost c.args.fleet.now c.remake.new.fleet c.remake.result c.remake.ensures.remade c.remake.ensures.not_remade c.requires.lost

pub returns-clause-gets_few : goal.returns-clause-gets_few
returns-clause-gets_few g c = part_few g.F.Fleet c.args.name.now c.args.live.now c.args.plan.now c.args.lost c.args.fleet.now c.remake.new.fleet c.remake.result c.remake.ensures.remade c.remake.ensures.not_remade c.requires.lost

pub returns-clause-cause : goal.returns-clause-cause
returns-clause-cause g c = part_cause g.F.Fleet c.args.name.now c.args.live.now c.args.plan.now c.args.lost c.args.fleet.now c.remake.new.fleet c.remake.result c.remake.ensures.remade c.remake.ensures.not_remade

pub returns-clause-clean : goal.returns-clause-clean
returns-clause-clean g c exact = part_clean g.F.Fleet c.args.name.now c.args.live.now c.args.plan.now c.args.lost c.args.fleet.now c.remake.new.fleet c.remake.result c.remake.ensures.remade c.remake.ensures.not_remade exact

pub returns-clause-looked : goal.returns-clause-looked
returns-clause-looked g c = part_looked g.F.Fleet c.args.name.now c.args.live.now c.args.plan.now c.args.lost c.args.fleet.now c.remake.new.fleet c.remake.result c.remake.ensures.remade c.remake.ensures.not_remade

pub returns-clause-stops : goal.returns-clause-stops
returns-clause-stops g c = part_stops g.F.Fleet c.args.name.now c.args.live.now c.args.plan.now c.args.lost c.args.fleet.now c.remake.new.fleet c.remake.result c.remake.ensures.remade c.remake.ensures.not_remade
