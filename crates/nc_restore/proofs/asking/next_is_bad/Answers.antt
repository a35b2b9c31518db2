use Rattle.std.proofs.Common.{◌≡◌, ◌∙◌, true, sym, arith}
use Rattle.nc_settle.specs.MetaWrites.{named}
use Rattle.nc_fetch.proofs.RoundLaws.{passed_over, some_entry, taken}
use Rattle.nc_restore.proofs.AskLaws.{judged_taken, judged_unasked}
use Rattle.nc_restore.proofs.asking.next_is_bad.Goals as goal

pub remove-ask-requires : goal.remove-ask-requires
remove-ask-requires g c =
    let within : named c.args.on.now c.args.cloud ≡ true = sym c.is_named.ensures ∙ c.if-is_named.true in
    omega (arith, c.args.asks.now.ok, some_entry c.args.width c.args.name.now c.args.live.now c.args.row (named c.args.on.now) c.args.cloud c.args.asks.now.items c.requires.cloud within c.requires.asks)

pub returns-then-is_named-clause-left : goal.returns-then-is_named-clause-left
returns-then-is_named-clause-left g c all left =
    let within : named c.args.on.now c.args.cloud ≡ true = sym c.is_named.ensures ∙ c.if-is_named.true in
    (taken c.args.width c.args.name.now c.args.live.now c.args.row (named c.args.on.now) c.args.cloud all c.args.asks.now.items c.remove-ask.new.self.items c.remove-ask.result c.requires.cloud within left
    c.remove-ask.ensures.value c.remove-ask.ensures.items).2

pub returns-then-is_named-clause-judged : goal.returns-then-is_named-clause-judged
returns-then-is_named-clause-judged g c all left =
    let within : named c.args.on.now c.args.cloud ≡ true = sym c.is_named.ensures ∙ c.if-is_named.true in
    let front =
    taken c.args.width c.args.name.now c.args.live.now c.args.row (named c.args.on.now) c.args.cloud all c.args.asks.now.items c.remove-ask.new.self.items c.remove-ask.result c.requires.cloud within left
    c.remove-ask.ensures.value c.remove-ask.ensures.items in
    judged_taken c.args.width c.args.name.now c.args.live.now c.args.row (named c.args.on.now) c.args.cloud all c.remove-ask.result c.wanted-wanted.result c.is_bad.result within front.0 front.1 c.wanted-wanted.ensures.value c.is_bad.ensures

pub returns-clause-left : goal.returns-clause-left
returns-clause-left g c all left = passed_over _ _ _ _ (named c.args.on.now) _ all _ c.requires.cloud (sym c.is_named.ensures ∙ c.if-is_named.false) left

pub returns-clause-judged : goal.returns-clause-judged
returns-clause-judged g c all left = judged_unasked _ _ c.args.live.now _ (named c.args.on.now) _ all (sym c.is_named.ensures ∙ c.if-is_named.false)
