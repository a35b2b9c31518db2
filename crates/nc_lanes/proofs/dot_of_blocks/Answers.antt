use Rattle.std.proofs.Common.{◌≡◌, ◌+◌, ◌*◌, sym, ap, ◌∙◌, arith}
use Rattle.nc_gf256.specs.Rows.{dot}
use Rattle.nc_lanes.proofs.DotLemmas.{dot_none, no_sums, more_sums, reduced}
use Rattle.nc_lanes.proofs.dot_of_blocks.Goals as goal

pub returns-then-blocks-eq0 : goal.returns-then-blocks-eq0
returns-then-blocks-eq0 c =
    let none = c.if-blocks-eq0.true in
    let all : 32 * c.args.blocks ≡ 0 = omega arith in
    sym (ap (λ n. dot n c.args.a.now c.args.b.now) all ∙ dot_none c.args.a.now c.args.b.now)

pub loop-block-init : goal.loop-block-init
loop-block-init c = no_sums c.args.a.now c.args.b.now

pub loop-block-preserved : goal.loop-block-preserved
loop-block-preserved c =
    let b = c.loop-block.block in
    more_sums (32 * b) (32 * (b + 1)) c.args.a.now c.args.b.now c.load.result c.load-in-loop-block.result c.products.result c.loop-block.sums c.sum-sums.result
    (omega arith) c.loop-block.invariant c.load.ensures c.load-in-loop-block.ensures c.products.ensures c.sum-sums.ensures

pub returns : goal.returns
returns c =
    let over = c.loop-block-test.false in
    let most = c.loop-block.auto.block-end in
    let all : 32 * c.loop-block.block ≡ 32 * c.args.blocks = omega arith in
    reduced c.loop-block.sums c.loop-block.invariant.long ∙ c.loop-block.invariant.whole ∙ ap (λ n. dot n c.args.a.now c.args.b.now) all
