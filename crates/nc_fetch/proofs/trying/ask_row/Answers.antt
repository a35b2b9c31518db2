use Rattle.std.proofs.Common.{◌≡◌, ◌∙◌, map, Vec, Global}
use Rattle.nc_cloud.specs.Fleet.{asked}
use Rattle.nc_cloud.specs.Rounds.{some_row}
use Rattle.nc_settle.specs.MetaWrites.{named}
use Rattle.nc_fetch.specs.declared.founds.Found.{Found}
use Rattle.nc_fetch.specs.Founds.{chunk_ask_on}
use Rattle.nc_fetch.proofs.FoundLaws.{ok_weaker}
use Rattle.nc_fetch.proofs.RoundLaws.{asks_ascend, row_from}
use Rattle.nc_fetch.proofs.trying.ask_row.Goals as goal

pub get_row-asks-requires-clause-clouds : goal.get_row-asks-requires-clause-clouds
get_row-asks-requires-clause-clouds g c =
    let n = g.F.Fleet.clouds c.args.fleet.now in
    let all : map asked c.in_ok-asks.asks.items ≡ some_row (chunk_ask_on n c.args.name.now c.args.live.now c.args.row (named c.args.on.now)) 0 n = rw (← c.width-width.ensures) c.in_ok-asks.ensures in
    asks_ascend n c.args.name.now c.args.live.now c.args.row (named c.args.on.now) _ all

pub judge_row-requires-clause-asks : goal.judge_row-requires-clause-asks
judge_row-requires-clause-asks g c κs alive = c.get_row-asks.ensures.entries ∙ c.in_ok-asks.ensures

pub returns-clause-asked : goal.returns-clause-asked
returns-clause-asked g c =
    ok_weaker _ _ c.judge_row.result
    (λ (founds : Vec Found Global) are.
    row_from g.F.Fleet c.args.name.now c.args.live.now c.args.row (named c.args.on.now) c.args.fleet.now c.get_row-asks.new.fleet c.get_row-asks.result.items c.width-width.result c.width-width.ensures
    (c.get_row-asks.ensures.entries ∙ c.in_ok-asks.ensures) c.get_row-asks.ensures.answered founds.items are)
    c.judge_row.ensures
