use Rattle.std.proofs.Common.{arith, refl, ap, ap₂, ◌∙◌, ◌≡◌, ◌<◌, None, length, get_or}
use Rattle.std.proofs.lemmas.List.{get_or_default}
use Rattle.nc_cloud.specs.declared.fleet.Ask.{Ask}
use Rattle.nc_cloud.specs.Fleet.{asked}
use Rattle.nc_memory.specs.Record.{answered_ask, answer_of, value}
use Rattle.nc_memory.proofs.Numbered.{numbered_set, map_kept}
use Rattle.nc_memory.proofs.serving.answer_all.Goals as goal

pub returns-in_err-asks-clause-asked : goal.returns-in_err-asks-clause-asked
returns-in_err-asks-clause-asked c = map_kept asked (answered_ask c.args.refusals.now c.args.log.now.events.items) (λ k a. refl) c.args.entries c.loop-i.i c.args.asks.now c.loop-i.asks c.loop-i.invariant

pub loop-i-preserved : goal.loop-i-preserved
loop-i-preserved c =
    let l : c.loop-i.i < length c.args.asks.now = omega arith in
    let m : c.loop-i.i < length c.loop-i.asks = omega arith in
    let same : get_or c.loop-i.asks c.loop-i.i c.index-asks-i.result ≡ get_or c.loop-i.asks c.loop-i.i c.index-asks-i-in-loop-i.result = get_or_default c.loop-i.asks c.loop-i.i _ _ m in
    numbered_set c.args.asks.now c.loop-i.asks c.loop-i.i c.index-asks-i-in-loop-i.result _ l (answered_ask c.args.refusals.now c.args.log.now.events.items) c.args.entries c.loop-i.invariant
    (ap (λ a. record (get_or c.loop-i.asks c.loop-i.i c.index-asks-i-in-loop-i.result) { answer = a })
    (c.in_ok-asks.ensures ∙ ap₂ (λ r (x : Ask). answer_of r x.most (value c.args.log.now.events.items x.cloud x.key None)) c.refusal_of.ensures same))

pub returns-clause-asked : goal.returns-clause-asked
returns-clause-asked c = map_kept asked (answered_ask c.args.refusals.now c.args.log.now.events.items) (λ k a. refl) c.args.entries c.loop-i.i c.args.asks.now c.loop-i.asks c.loop-i.invariant
