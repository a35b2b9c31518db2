use Rattle.std.proofs.Common.{◌∙◌, refl, sym}
use Rattle.nc_settle.specs.MetaWrites.{named}
use Rattle.nc_download.proofs.ListLaws.{fail_more, only_more, refused_by, refused_none, seen_of}
use Rattle.nc_download.proofs.listing.find_without.Goals as goal

pub returns-in-Ok-clause-found : goal.returns-in-Ok-clause-found
returns-in-Ok-clause-found g c =
    seen_of g.F.Fleet c.args.fleet.now c.look_without.new.fleet c.in_ok-view.view (named c.args.failed.now) c.failed.result c.in_ok-view.ensures.width c.failed.ensures _ _
    c.in_ok-view.ensures.valid c.in_ok-view.ensures.told (c.in-Ok.live, c.in-Ok.ensures.shown, refl)

pub returns-in-Ok-clause-more : goal.returns-in-Ok-clause-more
returns-in-Ok-clause-more g c =
    fail_more g.F.Fleet c.args.fleet.now c.look_without.new.fleet c.in_ok-view.view (named c.args.failed.now) c.failed.result c.in_ok-view.ensures.width c.failed.ensures c.in_ok-view.ensures.skipped c.in_ok-view.ensures.failed

pub returns-in-Ok-clause-only : goal.returns-in-Ok-clause-only
returns-in-Ok-clause-only g c exact =
    only_more g.F.Fleet c.args.fleet.now c.look_without.new.fleet c.in_ok-view.view (named c.args.failed.now) c.failed.result c.in_ok-view.ensures.width c.failed.ensures
    (c.in_ok-view.ensures.exact exact) (c.in_ok-view.ensures.spared exact)

pub returns-then-is_no_file-clause-found : goal.returns-then-is_no_file-clause-found
returns-then-is_no_file-clause-found g c =
    seen_of g.F.Fleet c.args.fleet.now c.look_without.new.fleet c.in_ok-view.view (named c.args.failed.now) c.failed.result c.in_ok-view.ensures.width c.failed.ensures _ _
    c.in_ok-view.ensures.valid c.in_ok-view.ensures.told (refused_none _ c.in-Err.fault (sym c.is_no_file.ensures ∙ c.if-is_no_file.true) c.in-Err.ensures.fault)

pub returns-then-is_no_file-clause-more : goal.returns-then-is_no_file-clause-more
returns-then-is_no_file-clause-more g c =
    fail_more g.F.Fleet c.args.fleet.now c.look_without.new.fleet c.in_ok-view.view (named c.args.failed.now) c.failed.result c.in_ok-view.ensures.width c.failed.ensures c.in_ok-view.ensures.skipped c.in_ok-view.ensures.failed

pub returns-then-is_no_file-clause-only : goal.returns-then-is_no_file-clause-only
returns-then-is_no_file-clause-only g c exact =
    only_more g.F.Fleet c.args.fleet.now c.look_without.new.fleet c.in_ok-view.view (named c.args.failed.now) c.failed.result c.in_ok-view.ensures.width c.failed.ensures
    (c.in_ok-view.ensures.exact exact) (c.in_ok-view.ensures.spared exact)

pub returns-clause-more : goal.returns-clause-more
returns-clause-more g c =
    fail_more g.F.Fleet c.args.fleet.now c.look_without.new.fleet c.in_ok-view.view (named c.args.failed.now) c.failed.result c.in_ok-view.ensures.width c.failed.ensures c.in_ok-view.ensures.skipped c.in_ok-view.ensures.failed

pub returns-clause-refused : goal.returns-clause-refused
returns-clause-refused g c =
    refused_by g.F.Fleet _ _ _ _ _ c.in-Err.fault (sym c.is_no_file.ensures ∙ c.if-is_no_file.false)
    (record {
      seen =
          seen_of g.F.Fleet c.args.fleet.now c.look_without.new.fleet c.in_ok-view.view (named c.args.failed.now) c.failed.result c.in_ok-view.ensures.width c.failed.ensures _ _
          c.in_ok-view.ensures.valid c.in_ok-view.ensures.told c.in-Err.ensures.fault;
      only = λ exact.
          only_more g.F.Fleet c.args.fleet.now c.look_without.new.fleet c.in_ok-view.view (named c.args.failed.now) c.failed.result c.in_ok-view.ensures.width c.failed.ensures
          (c.in_ok-view.ensures.exact exact) (c.in_ok-view.ensures.spared exact);
    })
