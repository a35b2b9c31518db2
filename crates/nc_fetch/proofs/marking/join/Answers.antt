use Rattle.std.proofs.Common.{◌≡◌, ◌++◌, ◌<◌, ◌∙◌, length, ap, arith}
use Rattle.nc_cloud.specs.Rounds.{some_row}
use Rattle.nc_fetch.specs.declared.founds.Found.TheVariants.{Unasked}
use Rattle.nc_fetch.specs.Whys.{piece_at}
use Rattle.nc_fetch.proofs.Growing.{front_of, joined_more, rest_of, some_left}
use Rattle.nc_fetch.proofs.marking.join.Goals as goal

pub remove-zero-requires : goal.remove-zero-requires
remove-zero-requires c =
    let low : c.loop-cloud.cloud < length c.args.zeros.items = omega (arith, c.loop-cloud-test.true, c.requires.zeros) in
    omega (arith, c.loop-cloud.zeros.ok, some_left _ _ _ c.loop-cloud.invariant.0 low)

pub remove-one-requires : goal.remove-one-requires
remove-one-requires c =
    let low : c.loop-cloud.cloud < length c.args.ones.items = omega (arith, c.loop-cloud-test.true, c.requires.ones) in
    omega (arith, c.loop-cloud.ones.ok, some_left _ _ _ c.loop-cloud.invariant.1 low)

pub loop-cloud-preserved : goal.loop-cloud-preserved
loop-cloud-preserved c =
    let zero_low : c.loop-cloud.cloud < length c.args.zeros.items = omega (arith, c.loop-cloud-test.true, c.requires.zeros) in
    let one_low : c.loop-cloud.cloud < length c.args.ones.items = omega (arith, c.loop-cloud-test.true, c.requires.ones) in (
      rest_of c.args.zeros.items _ _ c.loop-cloud.cloud c.remove-zero.ensures.items c.loop-cloud.invariant.0,
      rest_of c.args.ones.items _ _ c.loop-cloud.cloud c.remove-one.ensures.items c.loop-cloud.invariant.1,
      joined_more c.args.zeros.items c.args.ones.items c.loop-cloud.cloud _ _ _ _ _ c.loop-cloud.invariant.2
          (front_of Unasked c.args.zeros.items _ _ c.loop-cloud.cloud c.remove-zero.ensures.value c.loop-cloud.invariant.0 zero_low)
          (front_of Unasked c.args.ones.items _ _ c.loop-cloud.cloud c.remove-one.ensures.value c.loop-cloud.invariant.1 one_low)
          c.in_ok-push_both.ensures,
    )

pub returns : goal.returns
returns c =
    let all : c.loop-cloud.cloud ≡ c.args.width = omega (arith, c.loop-cloud-test.false, c.loop-cloud.auto.cloud-end) in
    c.loop-cloud.invariant.2 ∙ ap (λ k. c.args.pieces.now.items ++ some_row (piece_at c.args.zeros.items c.args.ones.items) 0 k) all
