use Rattle.std.proofs.Common.{ℕ, ◌/◌, ◌≡◌, length, slice_index, ap, arith, inl, inr, ◌∙◌}
use Rattle.std.proofs.lemmas.Bool.{cases_lt, false≢true}
use Rattle.nc_code.specs.Parts.{CodeParts}
use Rattle.nc_code.specs.Tries.{plan_len}
use Rattle.nc_nextloss.proofs.PlanLemmas.{not_tried}
use Rattle.nc_nextloss.proofs.witness.first_witness.Goals as goal

pub loop-j-preserved : goal.loop-j-preserved
loop-j-preserved c = λ k below. elim (cases_lt k c.loop-j.j) [
  | inl before ↦ c.loop-j.invariant k before
  | inr here ↦
      not_tried c.args.code.now c.code.inside.width c.plan_len-each.result c.loop-j.j k c.args.lost (slice_index c.args.base.now) (slice_index c.args.tries.now) c.drawn_plan-plan.result
      (ap (λ (x : CodeParts). x.width) c.code.view_is) c.plan_len-each.ensures (omega arith) c.drawn_plan-plan.ensures.plan (λ w. false≢true (c.if-is_witness.ensures.1 w))
]

pub returns-clause-none : goal.returns-clause-none
returns-clause-none c = λ _ j below.
    let width = ap (λ (x : CodeParts). x.width) c.code.view_is in
    let each : c.plan_len-each.result ≡ plan_len c.args.code.now.width = c.plan_len-each.ensures ∙ ap plan_len width in
    c.loop-j.invariant j (omega (arith, c.loop-j-test.false, ap (λ (k : ℕ). length c.args.tries.now / k) each))
