use Rattle.std.proofs.Common.{List, ◌∙◌, ap, sym, subst}
use Rattle.std.proofs.Math.Logic.{∥∥₁_map}
use Rattle.nc_memory.specs.declared.record.Event.{Event}
use Rattle.nc_cloud.specs.Contents.{nothing}
use Rattle.nc_memory.specs.Record.{WholeLog, contents_after}
use Rattle.nc_memory.specs.Stops.{cut}
use Rattle.nc_memory.proofs.Cuts.{cut_whole}
use Rattle.nc_memory.proofs.stops.cut_log.Goals as goal

pub invariant_of-result : goal.invariant_of-result
invariant_of-result c = record {
  whole = subst (λ (es : List Event). ∥ WholeLog es ∥₁) (sym (c.in_ok-events.ensures ∙ ap (cut c.args.at c.args.fates.now) c.deref.ensures.value)) (∥∥₁_map c.args.log.now.whole (cut_whole c.args.at c.args.fates.now c.args.log.now.events.items));
  current = λ shelf is. c.shelf_of-shelf.ensures shelf is ∙ ap (λ es. contents_after es nothing) c.deref-2.ensures.value;
}
