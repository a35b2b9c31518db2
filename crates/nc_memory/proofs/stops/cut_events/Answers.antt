use Rattle.std.proofs.Common.{◌≡◌, ◌∙◌, ◌++◌, ◌∷◌, [], ap, ap₂, arith, take}
use Rattle.nc_memory.specs.Stops.{stopped_event}
use Rattle.nc_memory.proofs.Cuts.{cut_is}
use Rattle.nc_memory.proofs.stops.cut_events.Goals as goal

pub returns : goal.returns
returns c =
    let all : c.loop-i.i ≡ c.args.at = omega arith in
    c.in_ok-push_event-2.ensures.ok
    ∙ ap₂ (λ xs x. xs ++ x ∷ []) (c.loop-i.invariant ∙ ap (λ k. take k c.args.log.now) all) (c.in_ok-stop_event.ensures ∙ ap (stopped_event c.args.fates.now) c.index-log-at.is)
    ∙ cut_is c.args.at c.args.fates.now c.args.log.now c.index-log-at.result c.requires
