use Rattle.std.proofs.Common.{sym, ap, ◌∙◌}
use Rattle.nc_cloud.specs.Contents.{nothing}
use Rattle.nc_memory.specs.Record.{contents_after}
use Rattle.nc_memory.proofs.ShelfLaws.{contents_more}
use Rattle.nc_memory.proofs.Wholes.{whole_pushed}
use Rattle.nc_memory.proofs.log.Log.push.Goals as goal

pub invariant_of-self-2 : goal.invariant_of-self-2
invariant_of-self-2 c = record {
  whole = whole_pushed c.push_event.result c.args.self.now.events.items c.push_event.new.events.items c.args.event c.requires c.push_event.ensures.ok c.push_event.ensures.err c.args.self.now.whole;
  current = λ shelf is.
      c.kept-shelf.ensures (contents_after c.args.self.now.events.items nothing) (λ old was. c.args.self.now.current old (sym c.take.ensures.value ∙ was)) shelf is
      ∙ contents_more c.args.self.now.events.items c.args.event
      ∙ ap (λ es. contents_after es nothing) (sym c.in_ok-push_event.ensures.ok);
}
