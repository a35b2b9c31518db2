use Rattle.std.proofs.Common.{◌+◌, ℕ, set, sym, subst, arith}
use Rattle.nc_settle.specs.MetaWrites.{named}
use Rattle.nc_fetch.proofs.FoundLaws.{left_all}
use Rattle.nc_restore.specs.Asking.{AreJudgedTo}
use Rattle.nc_restore.proofs.AskLaws.{judged_all, judged_more, judged_none}
use Rattle.nc_restore.proofs.asking.bad_ones.Goals as goal

pub loop-cloud-init : goal.loop-cloud-init
loop-cloud-init g c = (
  judged_none c.args.width c.args.name.now c.args.live.now c.args.row (named c.args.on.now) c.args.asks.items,
  left_all c.args.width c.args.name.now c.args.live.now c.args.row (named c.args.on.now) c.args.asks.items c.requires.asks,
  c.requires.seen,
)

pub next_is_bad-requires-clause-asks : goal.next_is_bad-requires-clause-asks
next_is_bad-requires-clause-asks g c = c.loop-cloud.invariant.1.asks

pub next_is_bad-requires-clause-seen : goal.next_is_bad-requires-clause-seen
next_is_bad-requires-clause-seen g c = c.loop-cloud.invariant.2

pub loop-cloud-preserved : goal.loop-cloud-preserved
loop-cloud-preserved g c = (
  subst (λ (k : ℕ). AreJudgedTo c.args.width c.args.name.now c.args.live.now c.args.row (named c.args.on.now) (c.loop-cloud.cloud + 1) c.args.asks.items (set c.loop-cloud.bad k c.next_is_bad.result)) (sym c.from.ensures)
      (judged_more c.args.width c.args.name.now c.args.live.now c.args.row (named c.args.on.now) c.loop-cloud.cloud c.args.asks.items c.loop-cloud.bad c.next_is_bad.result (omega (arith, c.loop-cloud-test.true, c.requires.narrow))
      c.loop-cloud.invariant.0 (c.next_is_bad.ensures.judged c.args.asks.items c.loop-cloud.invariant.1)),
  c.next_is_bad.ensures.left c.args.asks.items c.loop-cloud.invariant.1,
  c.next_is_bad.ensures.seen,
)

pub returns : goal.returns
returns g c = judged_all c.args.width c.args.name.now c.args.live.now c.args.row (named c.args.on.now) c.loop-cloud.cloud c.args.asks.items _ (omega (arith, c.loop-cloud-test.false, c.loop-cloud.auto.cloud-end)) c.loop-cloud.invariant.0
