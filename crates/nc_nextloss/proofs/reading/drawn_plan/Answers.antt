use Rattle.std.proofs.Common.{slice_index, ◌∙◌, sym, subst}
use Rattle.nc_code.specs.Parts.{PlanParts}
use Rattle.nc_code.specs.Codes.{IsBare}
use Rattle.nc_code.specs.Tries.{from}
use Rattle.nc_nextloss.proofs.PlanLemmas.{choices_small, plan_bare, plan_is}
use Rattle.nc_nextloss.proofs.reading.drawn_plan.Goals as goal

pub new-requires : goal.new-requires
new-requires c = choices_small c.args.width c.args.lost (slice_index c.args.base.now) (λ _. slice_index c.args.bytes.now c.args.at) c.choices-choice.result c.requires.base c.choices-choice.ensures

pub returns-clause-plan : goal.returns-clause-plan
returns-clause-plan c =
    c.new.ensures.parts
    ∙ plan_is c.args.width c.args.lost c.args.at (slice_index c.args.base.now) c.args.bytes.now c.choices-choice.result c.coefs-zero.result c.coefs-one.result c.choices-choice.ensures c.coefs-zero.ensures c.coefs-one.ensures

pub returns-clause-bare : goal.returns-clause-bare
returns-clause-bare c =
    let is = c.new.ensures.parts
    ∙ plan_is c.args.width c.args.lost c.args.at (slice_index c.args.base.now) c.args.bytes.now c.choices-choice.result c.coefs-zero.result c.coefs-one.result c.choices-choice.ensures c.coefs-zero.ensures c.coefs-one.ensures in
    subst (λ (p : PlanParts). IsBare c.args.width c.args.lost p) (sym is) (plan_bare c.args.width c.args.lost (slice_index c.args.base.now) (from c.args.at (slice_index c.args.bytes.now)))
