use Rattle.std.proofs.Common.{◌≡◌, ◌≤◌, ◌+◌, if◌then◌else◌, length, ap, sym, arith}
use Rattle.nc_fetch.specs.Whys.{free, is_fine, why_at}
use Rattle.nc_fetch.proofs.BatchLaws.{at_most_one, free_less, free_none, free_one, same_count}
use Rattle.nc_fetch.proofs.trying.batch_end.Goals as goal

pub loop-cloud-init : goal.loop-cloud-init
loop-cloud-init c = (sym (free_none c.args.whys.now c.args.at), c.requires.some, omega arith)

pub loop-cloud-preserved : goal.loop-cloud-preserved
loop-cloud-preserved c =
    let one : length (free c.args.whys.now c.args.at (c.loop-cloud.cloud + 1)) ≡ length (free c.args.whys.now c.args.at c.loop-cloud.cloud) + (if is_fine (why_at c.args.whys.now c.loop-cloud.cloud) then 1 else 0) =
    free_one c.args.whys.now c.args.at c.loop-cloud.cloud c.loop-cloud.invariant.2 in
    let same = same_count c.is_fine.result (is_fine (why_at c.args.whys.now c.loop-cloud.cloud)) c.is_fine.ensures in
    let low = at_most_one c.is_fine.result in (
      omega (arith, c.count_with-count.ensures, same, one, c.loop-cloud.invariant.0),
      omega (arith, c.count_with-count.ensures, low, c.loop-cloud.invariant.1, c.if-count-wanted.false),
      omega (arith, c.loop-cloud.invariant.2),
    )

pub returns-then-count-wanted-clause-few : goal.returns-then-count-wanted-clause-few
returns-then-count-wanted-clause-few c =
    let one : length (free c.args.whys.now c.args.at (c.loop-cloud.cloud + 1)) ≡ length (free c.args.whys.now c.args.at c.loop-cloud.cloud) + (if is_fine (why_at c.args.whys.now c.loop-cloud.cloud) then 1 else 0) =
    free_one c.args.whys.now c.args.at c.loop-cloud.cloud c.loop-cloud.invariant.2 in
    let same = same_count c.is_fine.result (is_fine (why_at c.args.whys.now c.loop-cloud.cloud)) c.is_fine.ensures in
    omega (arith, c.count_with-count.ensures, same, one, c.loop-cloud.invariant.0, c.if-count-wanted.true)

pub returns-clause-few : goal.returns-clause-few
returns-clause-few c =
    let all : c.loop-cloud.cloud ≡ c.args.width = omega (arith, c.loop-cloud-test.false, c.loop-cloud.auto.cloud-end, c.requires.left) in
    let same : length (free c.args.whys.now c.args.at c.loop-cloud.cloud) ≡ length (free c.args.whys.now c.args.at c.args.width) = ap (λ k. length (free c.args.whys.now c.args.at k)) all in
    omega (arith, same, c.loop-cloud.invariant.0, c.loop-cloud.invariant.1)

pub returns-clause-needed : goal.returns-clause-needed
returns-clause-needed c d last =
    let low : c.args.at ≤ d = omega (arith, last, c.requires.left) in
    let high : d ≤ c.loop-cloud.cloud = omega (arith, last, c.loop-cloud-test.false) in
    let fewer : length (free c.args.whys.now c.args.at d) ≤ length (free c.args.whys.now c.args.at c.loop-cloud.cloud) = free_less c.args.whys.now c.args.at d c.loop-cloud.cloud low high in
    omega (arith, fewer, c.loop-cloud.invariant.0, c.loop-cloud.invariant.1)
