use Rattle.std.proofs.Common.{◌∙◌, ap, subst}
use Rattle.nc_settle.specs.MetaWrites.{named}
use Rattle.nc_fetch.specs.Reading.{ReadsUnmarked}
use Rattle.nc_fetch.specs.Whys.{bads}
use Rattle.nc_restore.proofs.ReadLaws.{comes_outside, outside_listed, too_few_outside, untried_first}
use Rattle.nc_restore.proofs.reading.read_outside.Goals as goal

pub returns-in-Some-clause-comes : goal.returns-in-Some-clause-comes
returns-in-Some-clause-comes g c =
    comes_outside g.F.Fleet c.args.name.now c.args.live.now c.args.fleet.now c.read_unmarked.new.fleet (named c.args.on.now) c.untried_whys-whys.result c.read_unmarked.new.whys
    (untried_first _ (named c.args.on.now) c.untried_whys-whys.result c.requires.narrow c.untried_whys-whys.ensures) c.in-Some.file
    (subst (ReadsUnmarked g.F.Fleet c.args.name.now c.args.live.now c.args.fleet.now c.read_unmarked.new.fleet c.untried_whys-whys.result c.read_unmarked.new.whys) c.in-Some.is c.in_ok-read.ensures.reads)

pub returns-in-None-clause-lacks : goal.returns-in-None-clause-lacks
returns-in-None-clause-lacks g c =
    too_few_outside g.F.Fleet c.args.name.now c.args.live.now c.args.fleet.now c.read_unmarked.new.fleet (named c.args.on.now) c.untried_whys-whys.result c.read_unmarked.new.whys
    (untried_first _ (named c.args.on.now) c.untried_whys-whys.result c.requires.narrow c.untried_whys-whys.ensures) c.short_list.result
    (subst (ReadsUnmarked g.F.Fleet c.args.name.now c.args.live.now c.args.fleet.now c.read_unmarked.new.fleet c.untried_whys-whys.result c.read_unmarked.new.whys) c.in-None.is c.in_ok-read.ensures.reads)
    (c.short_list.ensures ∙ ap (bads c.outside.result 0) c.width-width.ensures ∙ outside_listed (named c.args.on.now) c.read_unmarked.new.whys c.outside.result _ c.requires.narrow c.outside.ensures)
