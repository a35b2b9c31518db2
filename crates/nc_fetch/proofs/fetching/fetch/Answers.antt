use Rattle.std.proofs.Common.{subst}
use Rattle.nc_settle.specs.MetaWrites.{named}
use Rattle.nc_fetch.specs.declared.parts.PartFault.{PartFault}
use Rattle.nc_fetch.specs.Parts.{LacksFor}
use Rattle.nc_fetch.proofs.CostLaws.{none_read}
use Rattle.nc_fetch.proofs.FetchedLaws.{came_reads_whole, came_shows, has_sought, refused_each, refused_fetches, short_shows, unsound_each}
use Rattle.nc_fetch.proofs.fetching.fetch.Goals as goal

pub returns-in-Err-clause-fetches : goal.returns-in-Err-clause-fetches
returns-in-Err-clause-fetches g c = refused_fetches g.F.Fleet _ _ _ c.in-Err.fault (record {
  view = c.in_ok-view.view;
  width = c.in_ok-view.ensures.width;
  sees = c.in_ok-view.ensures.told;
  rose = c.in_ok-view.ensures.failed;
  only = c.in_ok-view.ensures.exact;
  shown = c.in-Err.ensures.fault;
})

pub returns-in-Err-clause-shows : goal.returns-in-Err-clause-shows
returns-in-Err-clause-shows g c told = refused_each g.F.Fleet _ c.in_ok-view.ensures.valid told _ _ c.in-Err.fault (record {
  view = c.in_ok-view.view;
  width = c.in_ok-view.ensures.width;
  sees = c.in_ok-view.ensures.told;
  rose = c.in_ok-view.ensures.failed;
  only = c.in_ok-view.ensures.exact;
  shown = c.in-Err.ensures.fault;
})

pub returns-in-Err-clause-unread : goal.returns-in-Err-clause-unread
returns-in-Err-clause-unread g c = none_read _ _ c.in-Err.fault c.in_ok-view.ensures.gets

pub returns-in-Fails-clause-fetches : goal.returns-in-Fails-clause-fetches
returns-in-Fails-clause-fetches g c = record {
  view = c.in_ok-view.view;
  width = c.in_ok-view.ensures.width;
  sees = c.in_ok-view.ensures.told;
  rose = c.in_ok-view.ensures.failed;
  only = c.in_ok-view.ensures.exact;
  shown = record { meta = c.in-Ok.live; shown = c.in-Ok.ensures.shown; kernel = _; first = c.in-Fails.ensures.verdict };
}

pub returns-in-Fails-clause-shows : goal.returns-in-Fails-clause-shows
returns-in-Fails-clause-shows g c told = unsound_each g.F.Fleet _ c.in_ok-view.ensures.valid told _ _ c.in-Fails.a c.in-Fails.b (returns-in-Fails-clause-fetches g c)

pub returns-in-Ok-read_part-clause-fetches : goal.returns-in-Ok-read_part-clause-fetches
returns-in-Ok-read_part-clause-fetches g c = record {
  meta = c.in-Ok.live;
  mid = c.look.new.fleet;
  failed = c.failed.result;
  sought =
      has_sought g.F.Fleet c.args.name.now c.args.fleet.now c.look.new.fleet c.in_ok-view.view c.in-Ok.live c.failed.result c.in_ok-view.ensures.width c.in_ok-view.ensures.told c.in_ok-view.ensures.failed
      c.in_ok-view.ensures.exact c.in-Ok.ensures.shown c.failed.ensures c.in_default.ensures.verdict c.in_ok-view.ensures.looked c.in_ok-view.ensures.gets;
  comes = c.in-Ok-read_part.ensures.comes;
}

pub returns-in-Ok-read_part-clause-shows : goal.returns-in-Ok-read_part-clause-shows
returns-in-Ok-read_part-clause-shows g c told =
    came_shows g.F.Fleet c.args.name.now c.in_ok-view.ensures.valid told c.args.fleet.now c.look.new.fleet c.read_part.new.fleet c.in-Ok.live c.failed.result
    (has_sought g.F.Fleet c.args.name.now c.args.fleet.now c.look.new.fleet c.in_ok-view.view c.in-Ok.live c.failed.result c.in_ok-view.ensures.width c.in_ok-view.ensures.told c.in_ok-view.ensures.failed
    c.in_ok-view.ensures.exact c.in-Ok.ensures.shown c.failed.ensures c.in_default.ensures.verdict c.in_ok-view.ensures.looked c.in_ok-view.ensures.gets)
    c.read_part.ensures.looked.grows c.in-Ok-read_part.file c.in-Ok-read_part.ensures.comes

pub returns-in-Ok-read_part-clause-reads : goal.returns-in-Ok-read_part-clause-reads
returns-in-Ok-read_part-clause-reads g c told =
    came_reads_whole g.F.Fleet c.args.name.now c.in_ok-view.ensures.valid told c.args.fleet.now c.look.new.fleet c.read_part.new.fleet c.in-Ok.live c.failed.result
    (has_sought g.F.Fleet c.args.name.now c.args.fleet.now c.look.new.fleet c.in_ok-view.view c.in-Ok.live c.failed.result c.in_ok-view.ensures.width c.in_ok-view.ensures.told c.in_ok-view.ensures.failed
    c.in_ok-view.ensures.exact c.in-Ok.ensures.shown c.failed.ensures c.in_default.ensures.verdict c.in_ok-view.ensures.looked c.in_ok-view.ensures.gets)
    c.read_part.ensures.looked.grows c.in-Ok-read_part.file c.in-Ok-read_part.ensures.comes

pub returns-in-Err-Short-clause-fetches : goal.returns-in-Err-Short-clause-fetches
returns-in-Err-Short-clause-fetches g c = record {
  meta = c.in-Ok.live;
  mid = c.look.new.fleet;
  failed = c.failed.result;
  sought =
      has_sought g.F.Fleet c.args.name.now c.args.fleet.now c.look.new.fleet c.in_ok-view.view c.in-Ok.live c.failed.result c.in_ok-view.ensures.width c.in_ok-view.ensures.told c.in_ok-view.ensures.failed
      c.in_ok-view.ensures.exact c.in-Ok.ensures.shown c.failed.ensures c.in_default.ensures.verdict c.in_ok-view.ensures.looked c.in_ok-view.ensures.gets;
  lacks = subst (λ (f : PartFault). LacksFor g.F.Fleet c.args.name.now c.in-Ok.live c.look.new.fleet c.read_part.new.fleet (named c.failed.result) f) c.in-Err-Short.field-0-is c.in-Err-Short.ensures.lacks;
}

pub returns-in-Err-Short-clause-shows : goal.returns-in-Err-Short-clause-shows
returns-in-Err-Short-clause-shows g c told =
    short_shows g.F.Fleet c.args.name.now c.in_ok-view.ensures.valid told c.args.fleet.now c.look.new.fleet c.read_part.new.fleet c.in-Ok.live c.failed.result
    (has_sought g.F.Fleet c.args.name.now c.args.fleet.now c.look.new.fleet c.in_ok-view.view c.in-Ok.live c.failed.result c.in_ok-view.ensures.width c.in_ok-view.ensures.told c.in_ok-view.ensures.failed
    c.in_ok-view.ensures.exact c.in-Ok.ensures.shown c.failed.ensures c.in_default.ensures.verdict c.in_ok-view.ensures.looked c.in_ok-view.ensures.gets)
    c.read_part.ensures.looked.grows c.in-Err-Short.list
    (subst (λ (f : PartFault). LacksFor g.F.Fleet c.args.name.now c.in-Ok.live c.look.new.fleet c.read_part.new.fleet (named c.failed.result) f) c.in-Err-Short.field-0-is c.in-Err-Short.ensures.lacks)
