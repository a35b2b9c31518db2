use Rattle.std.proofs.Common.{List, ℕ, ap, ◌∙◌, subst, refl, rules}
use Rattle.std.specs.Option.{option_copied}
use Rattle.nc_search.specs.Repairs.{repair_len, IsRepairOf}
use Rattle.nc_search.proofs.RepairProofs.{repair_block_is, mend_plan_is, no_mend}
use Rattle.nc_search.proofs.mending.try_repair.Goals as goal

pub returns-in-Some-clause-plan : goal.returns-in-Some-clause-plan
returns-in-Some-clause-plan c =
    let len = c.repair_len-len.ensures.len ∙ ap repair_len c.width-width.ensures.width in
    let is = repair_block_is c.args.code.now.width c.args.key.now c.fill.new.out c.args.index c.from.result c.word_count.result c.repair_len-len.result _ c.fill.ensures c.from.ensures c.word_count.ensures (search rules) len in
    mend_plan_is c.args.code.now (option_copied c.args.stored) c.args.lost c.args.key.now c.args.index c.width-width.result c.fill.new.out c.repair_plan-plan.result c.width-width.ensures.width is c.repair_plan-plan.ensures.plan

pub returns-in-Some-clause-some : goal.returns-in-Some-clause-some
returns-in-Some-clause-some c =
    let len = c.repair_len-len.ensures.len ∙ ap repair_len c.width-width.ensures.width in
    let is = repair_block_is c.args.code.now.width c.args.key.now c.fill.new.out c.args.index c.from.result c.word_count.result c.repair_len-len.result _ c.fill.ensures c.from.ensures c.word_count.ensures (search rules) len in
    subst (λ (block : List ℕ). IsRepairOf c.args.code.now c.args.lost c.repair_plan-plan.result block c.in-Some.good) is c.in-Some.ensures.some

pub returns-in-None-clause-none : goal.returns-in-None-clause-none
returns-in-None-clause-none c = λ _.
    let len = c.repair_len-len.ensures.len ∙ ap repair_len c.width-width.ensures.width in
    let is = repair_block_is c.args.code.now.width c.args.key.now c.fill.new.out c.args.index c.from.result c.word_count.result c.repair_len-len.result _ c.fill.ensures c.from.ensures c.word_count.ensures (search rules) len in
    no_mend c.args.code.now (option_copied c.args.stored) c.args.lost c.args.key.now c.args.index c.fill.new.out c.repair_plan-plan.result is
    (mend_plan_is c.args.code.now (option_copied c.args.stored) c.args.lost c.args.key.now c.args.index c.width-width.result c.fill.new.out c.repair_plan-plan.result c.width-width.ensures.width is c.repair_plan-plan.ensures.plan)
    (c.in-None.ensures.none refl)
