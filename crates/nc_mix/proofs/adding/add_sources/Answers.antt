use Rattle.std.proofs.Common.{◌+◌, [], get_or, sym, arith}
use Rattle.nc_mix.specs.Mixing.{lent}
use Rattle.nc_mix.proofs.Mixes.{none_added, add_more, lent_at, lent_long}
use Rattle.nc_mix.proofs.adding.add_sources.Goals as goal

pub loop-i-init : goal.loop-i-init
loop-i-init c = none_added c.args.row.now (lent c.args.sources.now) c.args.start c.args.dst.now

pub add_from-requires : goal.add_from-requires
add_from-requires c =
    let long = lent_long c.args.sources.now c.args.size c.loop-i.i (record { ref_ptr = (0, 0); now = [] }) c.requires.long c.loop-i-test.true in
    omega (arith, long)

pub loop-i-preserved : goal.loop-i-preserved
loop-i-preserved c p h =
    let is = sym (lent_at c.args.sources.now c.loop-i.i (record { ref_ptr = (0, 0); now = [] }) c.loop-i-test.true) in
    add_more c.loop-i.i c.args.row.now (lent c.args.sources.now) (c.args.start + p) (get_or c.args.dst.now p 0) (get_or c.loop-i.dst p 0) (get_or c.add_from.new.dst p 0) _
    (c.loop-i.invariant p h) is (c.add_from.ensures p (omega arith))
