use Rattle.std.proofs.Common.{◌∙◌}
use Rattle.nc_scrub.proofs.AskLaws.{asks_ascend, asks_count, row_told}
use Rattle.nc_scrub.proofs.GetLaws.{round_reads}
use Rattle.nc_scrub.proofs.asking.ask_row.Goals as goal

pub ask_round-requires-clause-clouds : goal.ask_round-requires-clause-clouds
ask_round-requires-clause-clouds g c = asks_ascend _ c.args.name.now c.args.live.now c.args.row c.args.asks.now c.requires.asks

pub chunk_states-requires-clause-count : goal.chunk_states-requires-clause-count
chunk_states-requires-clause-count g c = asks_count _ c.args.name.now c.args.live.now c.args.row c.ask_round.new.asks (c.ask_round.ensures.entries ∙ c.requires.asks) _ c.width-width.ensures

pub returns-in-Ok-clause-told : goal.returns-in-Ok-clause-told
returns-in-Ok-clause-told g c told = row_told _ c.args.name.now c.args.live.now c.args.row c.ask_round.new.asks (c.ask_round.ensures.entries ∙ c.requires.asks) _ (c.ask_round.ensures.told told) _ c.width-width.ensures _ c.chunk_states.ensures

pub returns-in-Ok-clause-gets : goal.returns-in-Ok-clause-gets
returns-in-Ok-clause-gets g c k =
    round_reads _ c.ask_round.new.asks (asks_ascend _ c.args.name.now c.args.live.now c.args.row c.ask_round.new.asks (c.ask_round.ensures.entries ∙ c.requires.asks)) k _ _ (c.ask_round.ensures.gets k)

pub returns-in-Err-clause-gets : goal.returns-in-Err-clause-gets
returns-in-Err-clause-gets g c k =
    round_reads _ c.ask_round.new.asks (asks_ascend _ c.args.name.now c.args.live.now c.args.row c.ask_round.new.asks (c.ask_round.ensures.entries ∙ c.requires.asks)) k _ _ (c.ask_round.ensures.gets k)
