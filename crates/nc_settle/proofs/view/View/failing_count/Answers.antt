use Rattle.std.proofs.Common.{◌≡◌, ◌∙◌, ap, arith}
use Rattle.nc_state.specs.Clouds.{count_of}
use Rattle.nc_settle.specs.Failing.{fails}
use Rattle.nc_settle.specs.Views.{width_of}
use Rattle.nc_settle.proofs.Failures.{counted_more}
use Rattle.nc_settle.proofs.view.View.failing_count.Goals as goal

pub loop-cloud-preserved : goal.loop-cloud-preserved
loop-cloud-preserved c = counted_more _ _ _ _ c.has_failed.result c.has_failed.ensures c.from-count.ensures c.loop-cloud.invariant

pub returns : goal.returns
returns c =
    let all : c.loop-cloud.cloud ≡ width_of c.args.self.now = omega arith in
    c.loop-cloud.invariant.0 ∙ ap (λ n. count_of n (fails c.args.self.now)) all
