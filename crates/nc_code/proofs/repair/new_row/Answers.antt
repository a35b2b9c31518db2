use Rattle.std.proofs.Common.{◌≡◌, ◌∙◌, ap, arith, rules, sym, refl}
use Rattle.nc_gf256.proofs.Sums.{total_nil}
use Rattle.nc_code.specs.Codes.{term}
use Rattle.nc_code.specs.Parts.{CodeParts}
use Rattle.nc_gf256.proofs.RowSums.{zeros_everywhere}
use Rattle.nc_code.proofs.RepairLemmas.{sum_more, whole_row}
use Rattle.nc_code.proofs.repair.new_row.Goals as goal

pub loop-t-init : goal.loop-t-init
loop-t-init c =
    (refl, λ k below. zeros_everywhere 16 k ∙ sym (total_nil (term c.args.code.now c.args.lost c.args.plan.now c.args.r k)))

pub loop-t-preserved : goal.loop-t-preserved
loop-t-preserved c =
    (search rules, sum_more c.loop-t.row c.with_cloud-row.result (term c.args.code.now c.args.lost c.args.plan.now c.args.r) c.loop-t.t c.loop-t.invariant.1 c.with_cloud-row.ensures)

pub returns : goal.returns
returns c =
    let width = ap (λ (x : CodeParts). x.width) c.code.view_is in
    let all : c.loop-t.t ≡ c.code.inside.width = omega arith in
    whole_row c.args.code.now c.args.lost c.args.plan.now c.args.r c.loop-t.t c.loop-t.row (all ∙ width) c.loop-t.invariant.0 c.loop-t.invariant.1
