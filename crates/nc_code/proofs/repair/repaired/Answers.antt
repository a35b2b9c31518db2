use Rattle.std.proofs.Common.{◌∙◌, subst}
use Rattle.nc_code.specs.Parts.{CodeParts, IsCode}
use Rattle.nc_code.proofs.RepairLemmas.{natives_past, repaired_is}
use Rattle.nc_code.proofs.repair.repaired.Goals as goal

pub new-requires-clause-zero_past : goal.new-requires-clause-zero_past
new-requires-clause-zero_past c =
    natives_past c.args.code.now c.code.inside.width c.code.inside.rows c.args.lost c.args.plan.now c.new_row-zero.result c.new_row-one.result c.code.view_is (subst (λ (x : CodeParts). IsCode x) c.code.view_is c.code.invariant) c.new_row-zero.ensures c.new_row-one.ensures

pub returns-clause-code : goal.returns-clause-code
returns-clause-code c =
    c.new.ensures.parts
    ∙ repaired_is c.args.code.now c.code.inside.width c.code.inside.rows c.args.lost c.args.plan.now c.new_row-zero.result c.new_row-one.result c.code.view_is c.new_row-zero.ensures c.new_row-one.ensures
