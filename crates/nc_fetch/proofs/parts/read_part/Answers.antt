use Rattle.std.proofs.Common.{◌∙◌, ap, subst}
use Rattle.nc_settle.specs.MetaWrites.{named}
use Rattle.nc_fetch.specs.Reading.{ReadsUnmarked}
use Rattle.nc_fetch.specs.Whys.{bads}
use Rattle.nc_fetch.specs.declared.parts.PartFault.TheVariants.{Short}
use Rattle.nc_fetch.proofs.MarkLaws.{comes_from, failed_first, too_few}
use Rattle.nc_fetch.proofs.PartLaws.{lacks_shows, part_shows}
use Rattle.nc_fetch.proofs.parts.read_part.Goals as goal

pub returns-in-Some-clause-comes : goal.returns-in-Some-clause-comes
returns-in-Some-clause-comes g c =
    comes_from g.F.Fleet c.args.name.now c.args.live.now c.args.fleet.now c.read_unmarked.new.fleet (named c.args.failed.now) c.marked_with-whys.result c.read_unmarked.new.whys
    (failed_first _ (named c.args.failed.now) c.marked_with-whys.result c.requires.narrow c.marked_with-whys.ensures) c.in-Some.part
    (subst (ReadsUnmarked g.F.Fleet c.args.name.now c.args.live.now c.args.fleet.now c.read_unmarked.new.fleet c.marked_with-whys.result c.read_unmarked.new.whys) c.in-Some.is c.in_ok-read.ensures.reads)

pub returns-in-None-clause-lacks : goal.returns-in-None-clause-lacks
returns-in-None-clause-lacks g c =
    too_few g.F.Fleet c.args.name.now c.args.live.now c.args.fleet.now c.read_unmarked.new.fleet (named c.args.failed.now) c.marked_with-whys.result c.read_unmarked.new.whys
    (failed_first _ (named c.args.failed.now) c.marked_with-whys.result c.requires.narrow c.marked_with-whys.ensures) c.short_list.result
    (subst (ReadsUnmarked g.F.Fleet c.args.name.now c.args.live.now c.args.fleet.now c.read_unmarked.new.fleet c.marked_with-whys.result c.read_unmarked.new.whys) c.in-None.is c.in_ok-read.ensures.reads)
    (c.short_list.ensures ∙ ap (bads c.read_unmarked.new.whys 0) c.width-width.ensures)

pub returns-in-Some-clause-shows : goal.returns-in-Some-clause-shows
returns-in-Some-clause-shows g c told = part_shows g.F.Fleet _ _ _ _ (named c.args.failed.now) told c.in-Some.part (returns-in-Some-clause-comes g c)

pub returns-in-None-clause-shows : goal.returns-in-None-clause-shows
returns-in-None-clause-shows g c told = lacks_shows g.F.Fleet _ _ _ _ (named c.args.failed.now) told (Short c.short_list.result) (returns-in-None-clause-lacks g c)
