use Rattle.std.proofs.Common.{◌≡◌, ◌∙◌, ap, drop, map, arith, rules}
use Rattle.std.specs.List.{range_with_len}
use Rattle.nc_gf256.specs.Width.{native_count}
use Rattle.nc_native.specs.Native.{native}
use Rattle.nc_native.proofs.Pieces.{rest_more, native_more, none_yet}
use Rattle.nc_native.proofs.cutting.cut_from.Goals as goal

pub loop-i-init : goal.loop-i-init
loop-i-init c = (c.split_at.ensures.back, c.new-natives.ensures ∙ none_yet c.args.bytes.now c.args.width c.args.first)

pub loop-i-preserved : goal.loop-i-preserved
loop-i-preserved c = (
  c.split_at-in-loop-i.ensures.back ∙ rest_more c.args.bytes.now c.chunk_size-size.result c.loop-i._i c.min.result c.loop-i.rest.now c.loop-i.invariant.0 (search rules),
  c.in_ok-push.ensures.ok ∙ native_more c.args.bytes.now c.args.width c.args.first c.loop-i._i c.min.result c.chunk_size-size.result c.loop-i.rest.now c.split_at-in-loop-i.result.0.now c.in_ok-filled_up.field-0 c.loop-i.natives
      c.chunk_size-size.ensures c.loop-i.auto._i c.loop-i.invariant.0 (search rules) c.split_at-in-loop-i.ensures.front c.in_ok-filled_up.ensures c.loop-i.invariant.1,
)

pub returns : goal.returns
returns c =
    let all : c.loop-i._i ≡ native_count c.args.width = omega (arith, c.loop-i.auto._i-end (omega arith)) in
    c.loop-i.invariant.1 ∙ ap (λ m. drop c.args.first (map (native c.args.bytes.now c.args.width) (range_with_len 0 m))) all
