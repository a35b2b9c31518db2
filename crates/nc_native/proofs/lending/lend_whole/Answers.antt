use Rattle.std.proofs.Common.{◌≡◌, ◌∙◌, ◌≤◌, ◌++◌, ◌∷◌, [], length, map, ap, sym, arith}
use Rattle.std.proofs.lemmas.Grind.{common_steps}
use Rattle.std.specs.List.{range_with_len}
use Rattle.nc_native.specs.Native.{native, lent}
use Rattle.nc_native.proofs.Pieces.{rest_more}
use Rattle.nc_native.proofs.Whole.{whole_left, whole_more, first_natives, whole_few}
use Rattle.nc_native.proofs.lending.lend_whole.Goals as goal

pub split_at-requires : goal.split_at-requires
split_at-requires c =
    whole_left c.args.bytes.now c.args.width c.chunk_size-size.result c.whole_count-i-end.result c.loop-i._i c.loop-i.rest.now
    c.chunk_size-size.ensures c.whole_count-i-end.ensures.fits c.loop-i-test.true c.loop-i.invariant.0

pub loop-i-preserved : goal.loop-i-preserved
loop-i-preserved c =
    let room : c.chunk_size-size.result ≤ length c.loop-i.rest.now =
    whole_left c.args.bytes.now c.args.width c.chunk_size-size.result c.whole_count-i-end.result c.loop-i._i c.loop-i.rest.now
    c.chunk_size-size.ensures c.whole_count-i-end.ensures.fits c.loop-i-test.true c.loop-i.invariant.0 in
    let pushed : lent c.push.new.self.items ≡ lent c.loop-i.list.items ++ (c.split_at.result.0.now ∷ []) = grind (arith, common_steps) in (
      c.split_at.ensures.back
          ∙ rest_more c.args.bytes.now c.chunk_size-size.result c.loop-i._i c.chunk_size-size.result c.loop-i.rest.now c.loop-i.invariant.0 (omega arith),
      pushed
          ∙ whole_more c.args.bytes.now c.args.width c.loop-i._i c.chunk_size-size.result c.loop-i.rest.now c.split_at.result.0.now (lent c.loop-i.list.items)
          c.chunk_size-size.ensures room c.loop-i.invariant.0 c.split_at.ensures.front c.loop-i.invariant.1,
    )

pub returns : goal.returns
returns c =
    let upto : c.loop-i._i ≡ c.whole_count-i-end.result = omega arith in
    c.loop-i.invariant.1
    ∙ ap (λ m. map (native c.args.bytes.now c.args.width) (range_with_len 0 m)) (upto ∙ c.whole_count-i-end.ensures.count)
    ∙ sym (first_natives c.args.bytes.now c.args.width _ (whole_few (length c.args.bytes.now) c.args.width c.requires.wide))
