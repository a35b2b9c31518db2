use Rattle.std.proofs.Common.{◌<◌, ◌++◌, ◌∷◌, [], length, take, sym, ap, ◌∙◌, arith}
use Rattle.std.proofs.lemmas.List.{take_more}
use Rattle.nc_cloud.specs.Contents.{nothing}
use Rattle.nc_memory.specs.Record.{contents_after}
use Rattle.nc_memory.proofs.ShelfLaws.{contents_more}
use Rattle.nc_memory.proofs.shelf.shelf_of.Goals as goal

pub loop-event-preserved : goal.loop-event-preserved
loop-event-preserved c =
    let l : c.loop-event.event-index < length c.args.log.now = omega arith in
    c.in-Ok.ensures
    ∙ ap (contents_after (c.event-item.result ∷ [])) c.loop-event.invariant
    ∙ contents_more (take c.loop-event.event-index c.args.log.now) c.event-item.result
    ∙ ap (λ es. contents_after es nothing)
    (ap (λ e. take c.loop-event.event-index c.args.log.now ++ e ∷ []) c.event-item.is ∙ sym (take_more c.args.log.now c.loop-event.event-index c.event-item.result l))
