use Rattle.std.proofs.Common.{◌≡◌, ◌∙◌, Vec, Global}
use Rattle.std.proofs.lemmas.Result.{IfOk-weaker}
use Rattle.nc_cloud.proofs.Decisions.{once}
use Rattle.nc_cloud.proofs.Time.{stops_round}
use Rattle.nc_settle.specs.declared.place.Place.{Place}
use Rattle.nc_settle.specs.MetaWrites.{named}
use Rattle.nc_settle.proofs.Looks.{asks_ascend, failures, metas, no_chunks, only_failures, places_count, sees, skipped, spared}
use Rattle.nc_settle.proofs.looking.ask_all.Goals as goal

pub get_round-requires-clause-below : goal.get_round-requires-clause-below
get_round-requires-clause-below g c = (asks_ascend c.args.name.now c.args.slot (named c.args.skip.now) _ c.args.asks.now c.requires.asks).below

pub get_round-requires-clause-once : goal.get_round-requires-clause-once
get_round-requires-clause-once g c = once _ _ _ (asks_ascend c.args.name.now c.args.slot (named c.args.skip.now) _ c.args.asks.now c.requires.asks)

pub returns-clause-told : goal.returns-clause-told
returns-clause-told g c told =
    IfOk-weaker _ _ _ (λ (places : Vec Place Global) judged. sees c.args.name.now c.args.slot (named c.args.skip.now) _ c.get_round.new.asks (c.get_round.ensures.entries ∙ c.requires.asks) _ c.width-width.ensures places.items judged _ (c.get_round.ensures.told told)) c.judge_all.ensures

pub returns-clause-width : goal.returns-clause-width
returns-clause-width g c =
    IfOk-weaker _ _ _ (λ (places : Vec Place Global) judged. places_count c.args.name.now c.args.slot (named c.args.skip.now) _ c.get_round.new.asks (c.get_round.ensures.entries ∙ c.requires.asks) _ c.width-width.ensures places.items judged) c.judge_all.ensures

pub returns-clause-metas : goal.returns-clause-metas
returns-clause-metas g c =
    IfOk-weaker _ _ _ (λ (places : Vec Place Global) judged. metas c.args.name.now c.args.slot (named c.args.skip.now) _ c.get_round.new.asks (c.get_round.ensures.entries ∙ c.requires.asks) _ c.width-width.ensures places.items judged) c.judge_all.ensures

pub returns-clause-skipped : goal.returns-clause-skipped
returns-clause-skipped g c =
    IfOk-weaker _ _ _ (λ (places : Vec Place Global) judged. skipped c.args.name.now c.args.slot (named c.args.skip.now) _ c.get_round.new.asks (c.get_round.ensures.entries ∙ c.requires.asks) _ c.width-width.ensures places.items judged) c.judge_all.ensures

pub returns-clause-failed : goal.returns-clause-failed
returns-clause-failed g c =
    IfOk-weaker _ _ _ (λ (places : Vec Place Global) judged. failures c.args.name.now c.args.slot (named c.args.skip.now) _ c.get_round.new.asks (c.get_round.ensures.entries ∙ c.requires.asks) _ c.width-width.ensures places.items judged _ _ c.get_round.ensures.failed) c.judge_all.ensures

pub returns-clause-exact : goal.returns-clause-exact
returns-clause-exact g c exact =
    IfOk-weaker _ _ _ (λ (places : Vec Place Global) judged. only_failures c.args.name.now c.args.slot (named c.args.skip.now) _ c.get_round.new.asks (c.get_round.ensures.entries ∙ c.requires.asks) _ c.width-width.ensures places.items judged _ _ (c.get_round.ensures.exact exact)) c.judge_all.ensures

pub returns-clause-gets : goal.returns-clause-gets
returns-clause-gets g c k = no_chunks c.args.name.now c.args.slot (named c.args.skip.now) _ c.get_round.new.asks (c.get_round.ensures.entries ∙ c.requires.asks) k _ _ (c.get_round.ensures.gets k)

pub returns-clause-stops : goal.returns-clause-stops
returns-clause-stops g c = stops_round (λ G. G ≡ g.F.Fleet.held c.args.fleet.now) c.get_round.ensures.time c.get_round.ensures.past (λ G is. is)

pub returns-clause-spared : goal.returns-clause-spared
returns-clause-spared g c exact k named_k = spared c.args.name.now c.args.slot (named c.args.skip.now) _ c.get_round.new.asks (c.get_round.ensures.entries ∙ c.requires.asks) _ _ (c.get_round.ensures.exact exact) k named_k
