use Rattle.std.proofs.Common.{◌≡◌, ◌∙◌, ℕ, List, Some, sym, ap, subst}
use Rattle.nc_code.specs.Parts.{CodeParts, IsCode}
use Rattle.nc_code.specs.declared.plan.Witnesses.{Witnesses}
use Rattle.nc_meta.specs.declared.meta.Live.{Live}
use Rattle.nc_meta.specs.Metas.{IsLive}
use Rattle.nc_meta.specs.Parts.{IsGeneration}
use Rattle.nc_write.specs.Putting.{next_slots, next_meta}
use Rattle.nc_write.proofs.PuttingLaws.{HasPlans, next_is_live}
use Rattle.nc_write.proofs.live.put_live.Goals as goal

pub returns-clause-fits : goal.returns-clause-fits
returns-clause-fits c =
    let good = c.args.good.now in
    let top = c.args.top.now in
    let n : ℕ = good.code.width in
    let width : c.width-width.result ≡ n = c.width-width.ensures.width ∙ ap (λ (k : CodeParts). k.width) c.code.ensures.code in
    let slots : c.next_slots.result ≡ next_slots n top = c.next_slots.ensures ∙ ap (λ k. next_slots k top) width in
    let plans : HasPlans good.witnesses = subst (λ (w : Witnesses). HasPlans w) c.witnesses.ensures (record { count = c.told_plans.ensures.count; plans = c.told_plans.ensures.plans }) in
    let live : ℕ → CodeParts → List ℕ → Witnesses → Live = λ g code s w. record { generation = g; len = c.args.len; code = code; slots = s; marks = c.args.marks.now; witnesses = Some w } in
    let is : live c.args.generation c.code-2.result.now c.next_slots.result c.witnesses-2.result.now ≡ next_meta n top good c.args.len c.args.marks.now =
    λ i. live (c.requires.next i) (c.code-2.ensures.code i) (slots i) (c.witnesses-2.ensures i) in
    subst (IsLive n) (sym is)
    (next_is_live top good c.args.len c.args.marks.now (subst IsGeneration c.requires.next c.requires.last) c.requires.short
    (subst (λ (k : CodeParts). IsCode k) c.code.ensures.code c.width-width.ensures.kept) c.code.ensures.kept plans c.requires.marks c.requires.past)
