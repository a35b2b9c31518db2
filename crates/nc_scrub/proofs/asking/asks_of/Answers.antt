use Rattle.std.proofs.Common.{◌≡◌, ◌∙◌, ap, arith}
use Rattle.nc_cloud.specs.Rounds.{row}
use Rattle.nc_download.specs.Chunks.{chunk_ask}
use Rattle.nc_scrub.proofs.AskLaws.{asks_more}
use Rattle.nc_scrub.proofs.asking.asks_of.Goals as goal

pub loop-cloud-preserved : goal.loop-cloud-preserved
loop-cloud-preserved c = asks_more c.args.width c.args.name.now c.args.live.now c.args.row c.loop-cloud.cloud _ _ c.wanted.result c.loop-cloud.invariant c.wanted.ensures.value c.in_ok-push_ask.ensures

pub returns : goal.returns
returns c =
    let all : c.loop-cloud.cloud ≡ c.args.width = omega (arith, c.loop-cloud-test.false, c.loop-cloud.auto.cloud-end) in
    c.loop-cloud.invariant ∙ ap (row (chunk_ask c.args.width c.args.name.now c.args.live.now c.args.row) 0) all
