use Rattle.std.proofs.Common.{◌+◌, ◌*◌, subst, sym, arith}
use Rattle.nc_search.specs.Starts.{IsStartPlan, IsStartOf}
use Rattle.nc_search.proofs.PlanLists.{one_plan_more, all_plans}
use Rattle.nc_search.proofs.StartLemmas.{start_plan_is, no_start, start_good, start_is, place_is, place_within}
use Rattle.nc_search.proofs.starting.good_start.Goals as goal

pub first_try-requires-clause-long : goal.first_try-requires-clause-long
first_try-requires-clause-long c =
    place_within c.args.width c.start_code-code.result.width c.loop-lost.lost c.rows_len.result c.tries_len.result c.args.block.now c.rows_len.ensures c.tries_len.ensures c.start_code-code.ensures.width c.loop-lost-test.true c.requires.long

pub returns-in-None-clause-none : goal.returns-in-None-clause-none
returns-in-None-clause-none c = λ none.
    no_start c.args.width c.loop-lost.lost (c.rows_len.result + c.loop-lost.lost * c.tries_len.result) c.args.block.now c.start_code-code.result c.start_code-code.ensures.code
    (place_is c.args.width c.loop-lost.lost c.rows_len.result c.tries_len.result c.rows_len.ensures c.tries_len.ensures) c.loop-lost-test.true (c.in-None.ensures.none none)

pub loop-lost-preserved : goal.loop-lost-preserved
loop-lost-preserved c =
    one_plan_more _ c.loop-lost.plans c.loop-lost.lost c.in-Some.plan (omega arith) c.loop-lost.invariant
    (start_plan_is c.args.width c.loop-lost.lost (c.rows_len.result + c.loop-lost.lost * c.tries_len.result) c.args.block.now c.start_code-code.result c.in-Some.plan c.start_code-code.ensures.code
    (place_is c.args.width c.loop-lost.lost c.rows_len.result c.tries_len.result c.rows_len.ensures c.tries_len.ensures) c.in-Some.ensures.some)

pub new-requires : goal.new-requires
new-requires c =
    start_good c.args.width c.args.block.now c.start_code-code.result (record { plans = c.loop-lost.plans }) c.start_code-code.ensures.code c.in-Mds.ensures.verdict
    (all_plans (IsStartPlan c.args.width c.args.block.now) c.loop-lost.plans c.loop-lost.lost c.args.width c.loop-lost-test.false c.loop-lost.auto.lost-end c.loop-lost.invariant)

pub returns-clause-some : goal.returns-clause-some
returns-clause-some c =
    subst (IsStartOf c.args.width c.args.block.now) (sym c.new.ensures)
    (start_is c.args.width c.args.block.now c.start_code-code.result (record { plans = c.loop-lost.plans }) c.start_code-code.ensures.code c.in-Mds.ensures.verdict
    (all_plans (IsStartPlan c.args.width c.args.block.now) c.loop-lost.plans c.loop-lost.lost c.args.width c.loop-lost-test.false c.loop-lost.auto.lost-end c.loop-lost.invariant))
