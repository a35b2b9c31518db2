use Rattle.std.proofs.Common.{arith, ℕ, ◌*◌, ◌-◌, length, ◌≡◌, ◌∙◌, ap, subst}
use Rattle.nc_code.specs.Good.{plan_of}
use Rattle.nc_meta.proofs.PlanParts.{ReadPlans, plans_none, plans_more, plans_all, plan_at, length-plans}
use Rattle.nc_meta.proofs.plans.read_plans.Goals as goal

pub returns-then-bytes-n-clause-none : goal.returns-then-bytes-n-clause-none
returns-then-bytes-n-clause-none c = λ w s. c.if-bytes-n.true (ap length s.is_spelling ∙ length-plans _ w c.requires.narrow s.fits)

pub returns-in_err-plans-clause-none : goal.returns-in_err-plans-clause-none
returns-in_err-plans-clause-none c = rw c.from_residual.ensures (λ w s.
    let p = plan_at _ _ w c.requires.narrow s c.loop-lost.lost c.loop-lost-test.true in
    c.in_err-plans.ensures.none (plan_of w c.loop-lost.lost) (record { plan = p.plan; bare = p.bare; is_spelling = c.part_of.ensures ∙ p.is_spelling }))

pub loop-lost-init : goal.loop-lost-init
loop-lost-init c = rw c.none-plans.ensures (plans_none _ _ _)

pub loop-lost-preserved : goal.loop-lost-preserved
loop-lost-preserved c =
    plans_more _ _ _ _ _ _ (omega arith) c.loop-lost.invariant (rw (← c.part_of.ensures) c.in_ok-plans.ensures.some)

pub returns-clause-some : goal.returns-clause-some
returns-clause-some c =
    let end : c.loop-lost.lost ≡ c.args.n = omega arith in
    let P : ℕ → Type 0 = λ k. ReadPlans c.args.n (3 * (c.args.n - 1)) k c.args.bytes.now c.loop-lost.plans in
    plans_all _ _ _ _ c.if-bytes-n.false (subst P end c.loop-lost.invariant)
