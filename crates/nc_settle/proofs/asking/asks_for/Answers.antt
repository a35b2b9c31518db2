use Rattle.std.proofs.Common.{ap, sym, ◌∙◌, ◌++◌, option_to_list}
use Rattle.nc_cloud.proofs.SomeRows.{some_more}
use Rattle.nc_settle.specs.MetaWrites.{named}
use Rattle.nc_settle.specs.Rounds.{meta_ask_outside}
use Rattle.nc_settle.proofs.asking.asks_for.Goals as goal

pub loop-cloud-preserved : goal.loop-cloud-preserved
loop-cloud-preserved c =
    c.in_ok-push_outside.ensures ∙ ap (λ l. l ++ option_to_list (meta_ask_outside c.args.name.now c.args.slot (named c.args.skip.now) c.loop-cloud.cloud)) c.loop-cloud.invariant
    ∙ sym (some_more (meta_ask_outside c.args.name.now c.args.slot (named c.args.skip.now)) c.loop-cloud.cloud)
