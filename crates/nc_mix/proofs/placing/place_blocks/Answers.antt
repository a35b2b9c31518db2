use Rattle.std.proofs.Common.{◌≡◌, ◌≤◌, subst, arith}
use Rattle.nc_mix.specs.Mixing.{lent}
use Rattle.nc_mix.specs.Placing.{AreBegun}
use Rattle.nc_mix.proofs.SideBySide.{carried_over, none_begun, all_begun}
use Rattle.nc_mix.proofs.placing.place_blocks.Goals as goal

pub loop-at-init : goal.loop-at-init
loop-at-init g c = (
  none_begun c.args.size (lent c.args.sources.now) c.args.rows.now c.args.sums.now c.requires.room,
  omega arith,
)

pub loop-at-preserved : goal.loop-at-preserved
loop-at-preserved g c = (
  carried_over c.args.size (lent c.args.sources.now) c.args.rows.now c.loop-at.at c.in_ok-at.at
      c.mix_block.new.strips c.loop-at.sums c.place_all.new.sums c.in_ok-at.ensures.follow
      c.in_ok-at.ensures.room c.in_ok-at.ensures.mixed c.place_all.ensures
      c.loop-at.invariant.0,
  c.in_ok-at.ensures.within,
)

pub returns : goal.returns
returns g c =
    let within : c.loop-at.at ≤ c.args.size = c.loop-at.invariant.1 in
    let past : c.args.size ≤ c.loop-at.at = c.loop-at-test.false in
    let whole : c.loop-at.at ≡ c.args.size = omega arith in
    all_begun c.args.size (lent c.args.sources.now) c.args.rows.now c.loop-at.sums
    (subst (λ k. AreBegun c.args.size k c.args.rows.now (lent c.args.sources.now) c.loop-at.sums)
    whole c.loop-at.invariant.0)
