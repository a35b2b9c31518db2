use Rattle.std.proofs.Common.{ℕ, refl, subst}
use Rattle.nc_repair.specs.Asking.{AreSurvivorAsks}
use Rattle.nc_repair.specs.Remaking.NotRemade.{unasked}
use Rattle.nc_repair.proofs.AskingLaws.{asks_ascend}
use Rattle.nc_repair.proofs.TurnLaws.{asked_by, if_made_anew, if_stopped}
use Rattle.nc_repair.proofs.remaking.remake.Goals as goal

pub get_row-asks-requires-clause-clouds : goal.get_row-asks-requires-clause-clouds
get_row-asks-requires-clause-clouds g c =
    asks_ascend (g.F.Fleet.clouds c.args.fleet.now) _ _ _ _ c.in-Ok.asks.items
    (subst (λ (n : ℕ). AreSurvivorAsks n c.args.name.now c.args.live.now c.args.plan.now c.args.lost c.in-Ok.asks.items) c.width-width.ensures c.in-Ok.ensures)

pub returns-in-Err-clause-not_remade : goal.returns-in-Err-clause-not_remade
returns-in-Err-clause-not_remade g c = unasked refl refl

pub returns-clause-not_remade : goal.returns-clause-not_remade
returns-clause-not_remade g c =
    if_stopped g.F.Fleet _ _ _ _ c.width-width.result c.get_row-asks.result.items c.args.fleet.now c.get_row-asks.new.fleet c.made_anew.result c.width-width.ensures
    (asked_by _ _ _ _ c.width-width.result c.in-Ok.asks.items c.get_row-asks.result.items c.args.fleet.now c.get_row-asks.new.fleet c.width-width.ensures c.in-Ok.ensures c.get_row-asks.ensures.entries
    c.get_row-asks.ensures.answered c.get_row-asks.ensures.looked c.get_row-asks.ensures.stops) c.made_anew.ensures.stops

pub returns-clause-remade : goal.returns-clause-remade
returns-clause-remade g c =
    if_made_anew g.F.Fleet _ _ _ _ c.width-width.result c.get_row-asks.result.items c.args.fleet.now c.get_row-asks.new.fleet c.made_anew.result c.width-width.ensures
    (asked_by _ _ _ _ c.width-width.result c.in-Ok.asks.items c.get_row-asks.result.items c.args.fleet.now c.get_row-asks.new.fleet c.width-width.ensures c.in-Ok.ensures c.get_row-asks.ensures.entries
    c.get_row-asks.ensures.answered c.get_row-asks.ensures.looked c.get_row-asks.ensures.stops) c.made_anew.ensures.made
