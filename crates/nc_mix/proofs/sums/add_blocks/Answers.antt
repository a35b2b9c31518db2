use Rattle.std.proofs.Common.{◌≡◌, ◌≤◌, length, subst, sym, arith}
use Rattle.nc_mix.specs.Mixing.{lent}
use Rattle.nc_mix.specs.Strips.{HoldParts}
use Rattle.nc_mix.specs.Sums.{AreSums}
use Rattle.nc_mix.proofs.Parts.{hold_parts}
use Rattle.nc_mix.proofs.Extended.{carried_on, none_made}
use Rattle.nc_mix.proofs.sums.add_blocks.Goals as goal

pub loop-at-init : goal.loop-at-init
loop-at-init g c = (
  none_made c.args.rows.now (lent c.args.sources.now) c.args.sums.now c.requires.empty,
  omega arith,
)

pub extend_all-requires-clause-parts : goal.extend_all-requires-clause-parts
extend_all-requires-clause-parts g c κs alive =
    subst (λ n. HoldParts n c.mix_block.new.strips) (sym c.loop-at.invariant.0.count)
    (hold_parts (length c.args.rows.now) c.args.size c.mix_block.new.strips
    c.in_ok-at.ensures.room)

pub loop-at-preserved : goal.loop-at-preserved
loop-at-preserved g c = (
  carried_on c.args.rows.now (lent c.args.sources.now) c.loop-at.at c.in_ok-at.at
      c.mix_block.new.strips c.loop-at.sums c.extend_all.new.sums c.in_ok-at.ensures.follow
      c.in_ok-at.ensures.mixed c.extend_all.ensures c.loop-at.invariant.0,
  c.in_ok-at.ensures.within,
)

pub returns : goal.returns
returns g c =
    let within : c.loop-at.at ≤ c.args.size = c.loop-at.invariant.1 in
    let past : c.args.size ≤ c.loop-at.at = c.loop-at-test.false in
    let whole : c.loop-at.at ≡ c.args.size = omega arith in
    subst (λ k. AreSums k c.args.rows.now (lent c.args.sources.now) c.loop-at.sums) whole
    c.loop-at.invariant.0
